use Rattle.std.proofs.Common.{◌≡◌, take}
use Rattle.shm_logs.specs.Auditing.Logs.{logs_of}
use Rattle.shm_audit.specs.Totals.{totals_of}
use Rattle.shm_audit.proofs.count_totals.count.Given as goal

-- what is counted in the logs so far
abbrev pub invariant-logs : goal.invariant-logs
invariant-logs g l = l.counts ≡ totals_of (take l.log-index (logs_of l.logs))
