-- Why there is no workload, by the numbers of the causes.
use Rattle.std.specs.Prelude.{ℕ}
use Rattle.shm_model.specs.Refusal.{bad_line, line_too_long, out_of_memory, too_many_lines}
use Rattle.shm_lines.specs.declared.workload_error.WorkloadFault.{WorkloadFault}
use Rattle.shm_lines.specs.declared.workload_error.WorkloadFault.TheVariants as fault

abbrev pub workload_fault_number : WorkloadFault → ℕ
workload_fault_number fault.OutOfMemory = out_of_memory
workload_fault_number (fault.BadLine _) = bad_line
workload_fault_number (fault.LineTooLong _) = line_too_long
workload_fault_number fault.TooManyLines = too_many_lines
