use Rattle.std.proofs.Common.{sym, ◌∙◌, arith}
use Rattle.std.proofs.lemmas.Option.{slice_get_within}
use borrow.Author.Count.{below_more}
use Rattle.shm_model.specs.Log.{log_of}
use Rattle.shm_logs.specs.Auditing.Cause.{SoundAt}
use Rattle.shm_logs.specs.Auditing.Logs.{logs_of}
use Rattle.shm_logs.proofs.Audits.Lookups.{none-of}
use Rattle.shm_logs.proofs.log_audit.first_wrong_step.fault_at_site.Goals as goal

pub steps-preserved : goal.steps-preserved
steps-preserved g c =
    below_more (SoundAt (logs_of c.args.logs.now) c.args.site) c.steps.index c.steps.invariant
    (none-of c.fault_at-fault.result _ _ (sym c.is_some.ensures ∙ c.if-is_some.false) c.fault_at-fault.ensures)

pub returns-clause-none : goal.returns-clause-none
returns-clause-none g c = λ i l e.
    let b = slice_get_within (log_of (logs_of c.args.logs.now) c.args.site) i l e in
    c.steps.invariant i (omega arith) l e
