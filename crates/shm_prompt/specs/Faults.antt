-- Why a dialog ends before its input does, by the numbers of the causes.
use Rattle.std.specs.Prelude.{ℕ}
use Rattle.shm_model.specs.Refusal.{out_of_memory, read_fault, write_fault}
use Rattle.shm_prompt.specs.declared.prompt_error.PromptFault.{PromptFault}
use Rattle.shm_prompt.specs.declared.prompt_error.PromptFault.TheVariants as fault

abbrev pub prompt_fault_number : PromptFault → ℕ
prompt_fault_number fault.OutOfMemory = out_of_memory
prompt_fault_number fault.ReadFault = read_fault
prompt_fault_number fault.WriteFault = write_fault
