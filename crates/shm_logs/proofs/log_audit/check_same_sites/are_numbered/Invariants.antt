use Rattle.std.proofs.Common.{◌≡◌, ◌+◌, take}
use Rattle.std.specs.List.{sum_by}
use Rattle.shm_model.specs.Log.{sent_by}
use Rattle.shm_model.specs.Basics.{max_sent}
use Rattle.shm_logs.specs.Auditing.Logs.{logs_of}
use Rattle.shm_logs.proofs.log_audit.check_same_sites.are_numbered.Given as goal

abbrev pub invariant-logs : goal.invariant-logs
invariant-logs g l = l.left + sum_by sent_by (take l.log-index (logs_of l.logs)) ≡ max_sent
