-- Why a session doesn't go back, by its numbers.
use Rattle.std.specs.Prelude.{ℕ}
use Rattle.shm_model.specs.Refusal.{out_of_memory, past_beginning}
use Rattle.shm_debug.specs.declared.back_error.BackFault.{BackFault}
use Rattle.shm_debug.specs.declared.back_error.BackFault.TheVariants as fault

abbrev pub back_fault_number : BackFault → ℕ
back_fault_number fault.OutOfMemory = out_of_memory
back_fault_number fault.PastBeginning = past_beginning
