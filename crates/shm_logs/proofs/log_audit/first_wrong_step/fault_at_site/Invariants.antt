use Rattle.std.proofs.Common.{ℕ, ◌<◌}
use Rattle.shm_logs.specs.Auditing.Cause.{SoundAt}
use Rattle.shm_logs.specs.Auditing.Logs.{logs_of}
use Rattle.shm_logs.proofs.log_audit.first_wrong_step.fault_at_site.Given as goal

abbrev pub invariant-steps : goal.invariant-steps
invariant-steps g l = (j : ℕ) → j < l.index → SoundAt (logs_of l.logs) l.site j
