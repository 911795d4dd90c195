use Rattle.std.proofs.Common.{◌≡◌, length}
use Rattle.shm_logs.specs.Auditing.Logs.{logs_of}
use Rattle.shm_logs.specs.Auditing.Order.{order_of, AllName}
use Rattle.shm_logs.proofs.Audits.Merged.{left, IsMergedUpTo}
use Rattle.shm_logs.proofs.log_audit.merge_logs.merge.Given as goal

abbrev pub invariant-steps : goal.invariant-steps
invariant-steps g l = record {
  merged : IsMergedUpTo (logs_of l.logs) l.heads (order_of (logs_of l.logs) l.names.items);
  named : AllName (logs_of l.logs) l.names.items;
  sites : length l.heads ≡ 16;
}

abbrev pub decreases-steps : goal.decreases-steps
decreases-steps g l = left (logs_of l.logs) l.heads
