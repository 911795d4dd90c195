use Rattle.std.proofs.Common.{◌≡◌, length, take}
use Rattle.std.specs.List.{sum_by}
use Rattle.shm_logs.specs.Auditing.Logs.{logs_of}
use Rattle.shm_report.proofs.count_run.steps_in.Given as goal

-- so many in the logs so far
abbrev pub invariant-logs : goal.invariant-logs
invariant-logs l = l.total ≡ sum_by length (take l.log-index (logs_of l.logs))
