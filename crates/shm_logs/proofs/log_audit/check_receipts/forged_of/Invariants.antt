use Rattle.std.proofs.Common.{◌≡◌, take, length}
use Rattle.shm_model.specs.Receipt.{of_all, ReceiptsHold}
use Rattle.shm_logs.specs.Auditing.Cause.{receipts_to}
use Rattle.shm_logs.specs.Auditing.Callers.{callers_of, receipts_of}
use Rattle.shm_logs.specs.Auditing.Logs.{logs_of}
use Rattle.shm_logs.specs.Auditing.Marks.{marks_of, AreLast, MarksName}
use Rattle.shm_logs.proofs.log_audit.check_receipts.forged_of.Given as goal

abbrev pub invariant-receipts : goal.invariant-receipts
invariant-receipts g l = record {
  held : ReceiptsHold (logs_of l.logs) (receipts_to (callers_of l.callers) l.caller l.receipt-index);
  named : MarksName (logs_of l.logs) (marks_of l.marks) (of_all (receipts_to (callers_of l.callers) l.caller l.receipt-index));
  last : AreLast l.last (take l.receipt-index (receipts_of l.receipts));
  sites : length l.last ≡ 16;
}
