use Rattle.std.proofs.Common.{◌∙◌, sym, subst, []}
use Rattle.shm_logs.specs.Auditing.Logs.{logs_of}
use Rattle.shm_logs.specs.Auditing.Marks.{MarksName}
use Rattle.shm_logs.proofs.Audits.Lookups.{if-none}
use Rattle.shm_logs.proofs.Audits.MarkLemmas.{none-marked}
use Rattle.shm_logs.proofs.Audits.ReceiptLemmas.{holds-none}
use Rattle.shm_logs.proofs.log_audit.check_receipts.first_forged.Goals as goal

pub callers-init : goal.callers-init
callers-init g c = record {
  held = holds-none (logs_of c.args.logs.now);
  named = subst (λ marks. MarksName (logs_of c.args.logs.now) marks []) (sym c.requires.marks) (none-marked (logs_of c.args.logs.now));
}

pub callers-preserved : goal.callers-preserved
callers-preserved g c = record {
  held = if-none c.forged_of-fault.result _ (sym c.is_some.ensures ∙ c.if-is_some.false) c.forged_of-fault.ensures.held;
  named = if-none c.forged_of-fault.result _ (sym c.is_some.ensures ∙ c.if-is_some.false) c.forged_of-fault.ensures.marks;
}
