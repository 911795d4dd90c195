use Rattle.std.proofs.Common.{take}
use Rattle.shm_model.specs.Receipt.{of_all, ReceiptsHold}
use Rattle.shm_logs.specs.Auditing.Callers.{callers_of}
use Rattle.shm_logs.specs.Auditing.Logs.{logs_of}
use Rattle.shm_logs.specs.Auditing.Marks.{marks_of, MarksName}
use Rattle.shm_logs.proofs.log_audit.check_receipts.first_forged.Given as goal

abbrev pub invariant-callers : goal.invariant-callers
invariant-callers g l = record {
  held : ReceiptsHold (logs_of l.logs) (take l.caller (callers_of l.callers));
  named : MarksName (logs_of l.logs) (marks_of l.marks) (of_all (take l.caller (callers_of l.callers)));
}
