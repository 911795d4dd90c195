-- Why logs lead to no audit, by the numbers of the causes.
use Rattle.std.specs.Prelude.{ℕ}
use Rattle.shm_model.specs.Refusal.{other_logs, out_of_memory}
use Rattle.shm_logs.specs.Auditing.Cause.{audit_fault_number}
use Rattle.shm_audit.specs.declared.journals_error.JournalsFault.{JournalsFault}
use Rattle.shm_audit.specs.declared.journals_error.JournalsFault.TheVariants as cause

abbrev pub journals_fault_number : JournalsFault → ℕ
journals_fault_number cause.OutOfMemory = out_of_memory
journals_fault_number cause.NotOneSet = other_logs
journals_fault_number (cause.Audit f) = audit_fault_number f
