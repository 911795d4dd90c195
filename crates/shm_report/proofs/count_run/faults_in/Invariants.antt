use Rattle.std.proofs.Common.{◌≡◌, take}
use Rattle.std.specs.List.{sum_by}
use Rattle.shm_logs.specs.Auditing.Logs.{logs_of}
use Rattle.shm_report.specs.Counts.{faults_of}
use Rattle.shm_report.proofs.count_run.faults_in.Given as goal

-- so many in the logs so far
abbrev pub invariant-logs : goal.invariant-logs
invariant-logs l = l.total ≡ sum_by faults_of (take l.log-index (logs_of l.logs))
