-- Why a script is not replayed to its end, by the numbers of the causes.
use Rattle.std.specs.Prelude.{ℕ}
use Rattle.shm_model.specs.Refusal.{bad_line, line_too_long, out_of_memory, read_fault, too_many_lines, write_fault}
use Rattle.shm_debug.specs.declared.script_summary_and_error.DebugFault.{DebugFault}
use Rattle.shm_debug.specs.declared.script_summary_and_error.DebugFault.TheVariants as fault

abbrev pub debug_fault_number : DebugFault → ℕ
debug_fault_number fault.OutOfMemory = out_of_memory
debug_fault_number (fault.BadLine _) = bad_line
debug_fault_number (fault.LineTooLong _) = line_too_long
debug_fault_number fault.TooManyLines = too_many_lines
debug_fault_number fault.ReadFault = read_fault
debug_fault_number fault.WriteFault = write_fault
