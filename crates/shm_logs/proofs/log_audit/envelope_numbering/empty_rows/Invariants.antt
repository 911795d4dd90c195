use Rattle.std.proofs.Common.{◌≡◌, [], replicate}
use Rattle.shm_logs.specs.Auditing.Rows.{rows_of}
use Rattle.shm_logs.proofs.log_audit.envelope_numbering.empty_rows.Given as goal

abbrev pub invariant-logs : goal.invariant-logs
invariant-logs g l = rows_of l.rows.items ≡ replicate l.log-index []
