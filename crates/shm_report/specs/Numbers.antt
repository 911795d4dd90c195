-- Why nothing is reported, by the numbers of the causes.
use Rattle.std.specs.Prelude.{ℕ}
use Rattle.shm_model.specs.Refusal.{bad_line, clock_end, gave_up, line_too_long, no_thread, other_logs, out_of_memory, read_fault, too_many_lines, write_fault}
use Rattle.shm_logs.specs.Auditing.Cause.{audit_fault_number}
use Rattle.shm_report.specs.declared.report_error.ReportFault.{ReportFault}
use Rattle.shm_report.specs.declared.report_error.ReportFault.TheVariants as fault

abbrev pub report_fault_number : ReportFault → ℕ
report_fault_number fault.OutOfMemory = out_of_memory
report_fault_number (fault.BadLine _) = bad_line
report_fault_number (fault.LineTooLong _) = line_too_long
report_fault_number fault.TooManyLines = too_many_lines
report_fault_number fault.ReadFault = read_fault
report_fault_number fault.WriteFault = write_fault
report_fault_number fault.NoThread = no_thread
report_fault_number (fault.GaveUp _) = gave_up
report_fault_number fault.ClockEnd = clock_end
report_fault_number fault.Logs = other_logs
report_fault_number (fault.Audit cause) = audit_fault_number cause
