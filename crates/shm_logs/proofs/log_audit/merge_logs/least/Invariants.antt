use Rattle.std.proofs.Common.{◌<◌, ◌^◌, ◌-◌}
use Rattle.std.specs.Prelude.{IfSome}
use Rattle.shm_logs.specs.Auditing.Heads.{IsLeastIf}
use Rattle.shm_logs.specs.Auditing.Logs.{logs_of}
use Rattle.shm_logs.proofs.log_audit.merge_logs.least.Given as goal

abbrev pub invariant-logs : goal.invariant-logs
invariant-logs g l = record {
  least : IsLeastIf (logs_of l.logs) l.heads l.site l.least;
  below : IfSome l.least (λ head. head.index < 2 ^ 64 - 1);
}
