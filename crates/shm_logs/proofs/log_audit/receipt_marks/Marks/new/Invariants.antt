use Rattle.std.proofs.Common.{◌≡◌, ◌≤◌, map, take, length, vec_capacity}
use Rattle.shm_logs.specs.Auditing.Logs.{logs_of}
use Rattle.shm_logs.specs.Auditing.Marks.{unmarked}
use Rattle.shm_logs.proofs.log_audit.receipt_marks.Marks.new.Given as goal

abbrev pub invariant-logs : goal.invariant-logs
invariant-logs g l = record {
  rows : map (λ row. row.items) l.rows.items ≡ map unmarked (take l.log-index (logs_of l.logs));
  room : length l.logs ≤ vec_capacity l.rows;
}
