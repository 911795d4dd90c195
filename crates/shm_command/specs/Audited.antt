-- What is told of journals that an audit accepts, and the cause and the status where it doesn't.
use Rattle.std.specs.Prelude.{⊤, ◌≡◌, ◌≢◌, ◌⊎◌, ℕ, List, ◌∷◌, ◌++◌, codes, length, None, Option}
use Rattle.std.specs.declared.alloc.Global.{Global}
use Rattle.std.specs.Io.KnownBytes.{Appends}
use Rattle.shm_audit.specs.Missing.{missing_step}
use Rattle.shm_audit.specs.Totals.{totals_of, totals_text}
use Rattle.shm_audit.specs.OneSet.{AreOneRun, IsWhy}
use Rattle.shm_audit.specs.declared.find_missing_step.MissingStep.{MissingStep}
use Rattle.shm_audit.specs.declared.totals.Totals.{Totals}
use Rattle.shm_journal.specs.declared.journal_error.JournalFault.{JournalFault}
use Rattle.shm_journal.specs.declared.journal_error.JournalFault.TheVariants as journal
use Rattle.shm_audit.specs.declared.journals_error.JournalsFault.{JournalsFault}
use Rattle.shm_audit.specs.declared.journals_error.JournalsFault.TheVariants as journals
use Rattle.shm_logs.specs.Auditing.Logs.{logs_of}
use Rattle.shm_model.specs.Log.{Logged}
use Rattle.shm_logs.specs.declared.site_boxes.site_log.SiteLog.{SiteLog}
use Rattle.shm_command.specs.declared.audit_failure.Unaudited.{Unaudited}
use Rattle.shm_command.specs.declared.audit_failure.Unaudited.TheVariants as cause

abbrev pub audit_text : Totals → List ℕ
audit_text counts = codes "audit yes" ++ (10 ∷ totals_text counts)

-- they are the logs of so many sites, which shared one plain memory, and this is counted of them
pub record IsOfSites {A : Type 0} (sites : ℕ) (logs : List (SiteLog A)) (counts : Totals) : Type 0 where
  pub each : length logs ≡ sites
  pub run : AreOneRun logs
  pub counted : counts ≡ totals_of (logs_of logs)

-- so many sites had logs of one run, and what is counted of them was written
pub record TellsAudit (sites : ℕ) (old new : Option (List ℕ)) : Type 0 where
  pub logs : List (SiteLog Global)
  pub counts : Totals
  pub accepted : IsOfSites sites logs counts
  pub told : Appends old new (audit_text counts)

abbrev pub journal_status : JournalFault → ℕ
journal_status journal.OutOfMemory = 3
journal_status journal.ReadFault = 3
journal_status (journal.BadLine number) = 1
journal_status journal.UnendedState = 1
journal_status journal.BeginsWithState = 1

abbrev pub journals_status : JournalsFault → ℕ
journals_status journals.OutOfMemory = 3
journals_status journals.NotOneSet = 1
journals_status (journals.Audit found) = 4

-- a file is no journal, or they are no set; the audit found a cause; or something failed
abbrev pub unaudited_status : Unaudited → ℕ
unaudited_status cause.OutOfMemory = 3
unaudited_status cause.WriteFault = 3
unaudited_status (cause.Unopened at) = 3
unaudited_status (cause.Unread at fault) = journal_status fault
unaudited_status (cause.Damaged at bytes) = 1
unaudited_status (cause.Unmarked at) = 1
unaudited_status (cause.OtherState at) = 1
unaudited_status (cause.OtherCluster at) = 1
unaudited_status (cause.Unaccepted fault) = journals_status fault

-- why these logs aren't accepted: there isn't one for each of so many sites, or they are no set of logs, or the audit finds this cause. Other
-- faults say nothing of them.
abbrev pub IsWhyNot : {A : Type 0} → ℕ → List (SiteLog A) → Unaudited → Type 0
IsWhyNot sites logs (cause.Unaccepted journals.NotOneSet) = (length logs ≢ sites) ⊎ IsWhy logs journals.NotOneSet
IsWhyNot sites logs (cause.Unaccepted (journals.Audit found)) = (length logs ≡ sites) × IsWhy logs (journals.Audit found)
IsWhyNot sites logs _ = ⊤

-- so of the logs to which so many journals led, one log each
pub record IsOfEach (journals sites : ℕ) (fault : Unaudited) : Type 0 where
  pub logs : List (SiteLog Global)
  pub each : length logs ≡ journals
  pub why : IsWhyNot sites logs fault

-- what a fault says of so many journals, where it isn't that one of them wasn't read, or that something else failed
abbrev pub IsCauseOf : ℕ → ℕ → Unaudited → Type 0
IsCauseOf journals sites (cause.Unaccepted fault) = IsOfEach journals sites (cause.Unaccepted fault)
IsCauseOf journals sites _ = ⊤

-- a fault that isn't the logs'
abbrev pub IsUnread : Unaudited → Type 0
IsUnread (cause.Unaccepted fault) = ⊥
IsUnread _ = ⊤

-- so many journals weren't accepted as those of so many sites, by a fault of this status
pub record FailsAudit (journals sites status : ℕ) : Type 0 where
  pub fault : Unaudited
  pub told : status ≡ unaudited_status fault
  pub why : IsCauseOf journals sites fault

-- the step that a log lacks, where the audit found one missing
abbrev pub missing_in : List (List Logged) → Unaudited → Option MissingStep
missing_in logs (cause.Unaccepted (journals.Audit found)) = missing_step logs found
missing_in logs _ = None
