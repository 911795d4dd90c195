-- What is told of a journal, by what was read of it.
use Rattle.std.proofs.Common.{ℕ, List, Ok, Err}
use Rattle.std.specs.Prelude.{OnOk, Option, Result}
use Rattle.std.specs.Io.KnownBytes.{Appends}
use Rattle.shm_journal.specs.Summed.{IsSummary, SumsUpKnown}
use Rattle.shm_journal.specs.declared.journal_error.JournalFault.{JournalFault}
use Rattle.shm_journal.specs.declared.journal_error.JournalFault.TheVariants as journal
use Rattle.shm_command.specs.FileSummary.{file_summary_text}
use Rattle.shm_command.specs.Summarized.{IsUntold, TellsSummary}
use Rattle.shm_command.specs.declared.file_summary.FileSummary.{FileSummary}
use Rattle.shm_command.specs.declared.audit_failure.Unaudited.TheVariants as cause

pub summary_told : {A B : Type 0} (r : Result A B) (old new : Option (List ℕ)) (journal : List ℕ) (summary : FileSummary) → IsSummary journal summary.lines
    → OnOk r (Appends old new (file_summary_text summary)) → OnOk r (TellsSummary old new)
summary_told (Ok x) old new journal summary is told = record { journal = journal; summary = summary; is = is; told = told }
summary_told (Err e) old new journal summary is told = tt

pub unread_untold : (remaining : Option (List ℕ)) (at : ℕ) (f : JournalFault) → SumsUpKnown remaining (Err f) → IsUntold (cause.Unread at f)
unread_untold remaining at journal.OutOfMemory h = tt
unread_untold remaining at journal.ReadFault h = tt
unread_untold remaining at (journal.BadLine number) h = (h.0, h.2)
unread_untold remaining at journal.UnendedState h = (h.0, h.2)
unread_untold remaining at journal.BeginsWithState h = h.2
