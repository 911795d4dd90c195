use Rattle.std.proofs.Common.{arith}
use borrow.Author.Count.{below_more}
use Rattle.shm_logs.specs.Auditing.Complete.{IsToldAt}
use Rattle.shm_logs.specs.Auditing.Marks.{mark_at, marks_of}
use Rattle.shm_logs.specs.Auditing.Logs.{logs_of}
use Rattle.shm_logs.proofs.Audits.CompleteLemmas.{needs-within}
use Rattle.shm_logs.proofs.log_audit.steps_without_receipt.untold_at_site.Goals as goal

pub steps-preserved : goal.steps-preserved
steps-preserved g c =
    below_more (IsToldAt (logs_of c.args.logs.now) (mark_at (marks_of c.args.marks.now)) c.args.site) c.steps.index c.steps.invariant
    (c.is_untold.ensures.told c.if-is_untold.false)

pub returns-clause-told : goal.returns-clause-told
returns-clause-told g c = λ i needs.
    let b = needs-within (logs_of c.args.logs.now) c.args.site i needs in
    c.steps.invariant i (omega arith) needs
