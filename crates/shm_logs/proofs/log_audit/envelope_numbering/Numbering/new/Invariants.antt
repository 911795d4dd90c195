use Rattle.std.proofs.Common.{◌≡◌, take, length}
use Rattle.shm_logs.specs.Auditing.Logs.{logs_of}
use Rattle.shm_logs.specs.Auditing.Numbering.{sent_in}
use Rattle.shm_logs.specs.Auditing.Order.{order_of}
use Rattle.shm_logs.specs.Auditing.Rows.{rows_of}
use Rattle.shm_logs.proofs.Audits.Numbers.{HasRows}
use Rattle.shm_logs.proofs.log_audit.envelope_numbering.Numbering.new.Given as goal

abbrev pub invariant-names : goal.invariant-names
invariant-names g l = record {
  rows : HasRows (rows_of l.before.items) (take l.name-index (order_of (logs_of l.logs) l.order));
  total : l.total ≡ sent_in (take l.name-index (order_of (logs_of l.logs) l.order));
  count : length l.before.items ≡ length l.logs;
}
