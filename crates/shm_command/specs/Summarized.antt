-- What is told of a journal, and the cause and the status where it isn't.
use Rattle.std.specs.Prelude.{⊤, ◌≡◌, ◌≢◌, ℕ, List, Option}
use Rattle.std.specs.Io.KnownBytes.{Appends}
use Rattle.shm_journal.specs.Found.{Bad, Partial}
use Rattle.shm_journal.specs.Summed.{IsSummary, found_any}
use Rattle.shm_journal.specs.declared.journal_error.JournalFault.TheVariants as journal
use Rattle.shm_command.specs.Audited.{unaudited_status}
use Rattle.shm_command.specs.FileSummary.{file_summary_text}
use Rattle.shm_command.specs.declared.audit_failure.Unaudited.{Unaudited}
use Rattle.shm_command.specs.declared.audit_failure.Unaudited.TheVariants as cause
use Rattle.shm_command.specs.declared.file_summary.FileSummary.{FileSummary}

-- the lines of a file are those of a journal, and what it has was written
pub record TellsSummary (old new : Option (List ℕ)) : Type 0 where
  pub journal : List ℕ
  pub summary : FileSummary
  pub is : IsSummary journal summary.lines
  pub told : Appends old new (file_summary_text summary)

-- a file has a bad line there, or ends within a state; or something else failed. What a journal begins with is told of it all the same.
abbrev pub IsUntold : Unaudited → Type 0
IsUntold (cause.Unread at (journal.BadLine number)) = (file : List ℕ) × (found_any file ≡ Bad number)
IsUntold (cause.Unread at journal.UnendedState) = (file : List ℕ) × (found_any file ≡ Partial)
IsUntold (cause.Unread at journal.BeginsWithState) = ⊥
IsUntold (cause.Unaccepted fault) = ⊥
IsUntold _ = ⊤

-- nothing is told, by a fault of this status
pub record FailsSummary (status : ℕ) : Type 0 where
  pub fault : Unaudited
  pub told : status ≡ unaudited_status fault
  pub why : IsUntold fault

-- a journal was told of, to an end of this status
pub record Summarizes (status : ℕ) (old new : Option (List ℕ)) : Type 0 where
  pub told : status ≡ 0 → TellsSummary old new
  pub failed : status ≢ 0 → FailsSummary status
  pub quiet : status ≡ 1 → new ≡ old
