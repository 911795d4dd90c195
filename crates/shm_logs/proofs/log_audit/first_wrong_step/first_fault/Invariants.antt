use Rattle.std.proofs.Common.{ℕ, ◌<◌}
use Rattle.shm_logs.specs.Auditing.Cause.{SoundAt}
use Rattle.shm_logs.specs.Auditing.Logs.{logs_of}
use Rattle.shm_logs.proofs.log_audit.first_wrong_step.first_fault.Given as goal

abbrev pub invariant-sites : goal.invariant-sites
invariant-sites g l = (s i : ℕ) → s < l.site → SoundAt (logs_of l.logs) s i
