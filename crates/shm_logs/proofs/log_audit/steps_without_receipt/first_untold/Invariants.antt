use Rattle.std.proofs.Common.{ℕ, ◌<◌}
use Rattle.shm_logs.specs.Auditing.Complete.{IsToldAt}
use Rattle.shm_logs.specs.Auditing.Marks.{mark_at, marks_of}
use Rattle.shm_logs.specs.Auditing.Logs.{logs_of}
use Rattle.shm_logs.proofs.log_audit.steps_without_receipt.first_untold.Given as goal

abbrev pub invariant-sites : goal.invariant-sites
invariant-sites g l = (s i : ℕ) → s < l.number → IsToldAt (logs_of l.logs) (mark_at (marks_of l.marks)) s i
