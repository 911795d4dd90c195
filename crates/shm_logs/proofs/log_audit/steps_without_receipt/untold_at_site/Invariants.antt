use Rattle.std.proofs.Common.{ℕ, ◌<◌}
use Rattle.shm_logs.specs.Auditing.Complete.{IsToldAt}
use Rattle.shm_logs.specs.Auditing.Marks.{mark_at, marks_of}
use Rattle.shm_logs.specs.Auditing.Logs.{logs_of}
use Rattle.shm_logs.proofs.log_audit.steps_without_receipt.untold_at_site.Given as goal

abbrev pub invariant-steps : goal.invariant-steps
invariant-steps g l = (j : ℕ) → j < l.index → IsToldAt (logs_of l.logs) (mark_at (marks_of l.marks)) l.site j
