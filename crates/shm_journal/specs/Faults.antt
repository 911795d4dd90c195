-- Why a process ends before its lines do, or a journal leads to nothing, by the numbers of the causes.
use Rattle.std.specs.Prelude.{ℕ}
use Rattle.shm_model.specs.Refusal.{bad_line, other_logs, out_of_memory, read_fault, write_fault}
use Rattle.shm_journal.specs.declared.journal_error.JournalFault.{JournalFault}
use Rattle.shm_journal.specs.declared.journal_error.JournalFault.TheVariants as journal
use Rattle.shm_journal.specs.declared.process_error.ProcessFault.{ProcessFault}
use Rattle.shm_journal.specs.declared.process_error.ProcessFault.TheVariants as fault

abbrev pub process_fault_number : ProcessFault → ℕ
process_fault_number fault.OutOfMemory = out_of_memory
process_fault_number fault.ReadFault = read_fault
process_fault_number fault.WriteFault = write_fault
process_fault_number fault.JournalFault = write_fault
process_fault_number (fault.TooOld clock) = other_logs

abbrev pub journal_fault_number : JournalFault → ℕ
journal_fault_number journal.OutOfMemory = out_of_memory
journal_fault_number journal.ReadFault = read_fault
journal_fault_number (journal.BadLine number) = bad_line
journal_fault_number journal.UnendedState = bad_line
journal_fault_number journal.BeginsWithState = other_logs
