use Rattle.std.proofs.Common.{◌≡◌, take}
use Rattle.std.specs.List.{sum_by}
use Rattle.shm_logs.specs.Auditing.Logs.{logs_of}
use Rattle.shm_model.specs.Log.{sent_by}
use Rattle.shm_report.proofs.count_run.envelopes_in.Given as goal

-- so many in the logs so far
abbrev pub invariant-logs : goal.invariant-logs
invariant-logs l = l.total ≡ sum_by sent_by (take l.log-index (logs_of l.logs))
