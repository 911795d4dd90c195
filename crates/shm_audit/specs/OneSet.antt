-- When logs are those of one set of sites, and what it means that an audit accepted them.
use Rattle.std.specs.Prelude.{⊤, ◌≤◌, ℕ, List, []}
use Rattle.shm_model.specs.declared.event.Event.{Event}
use Rattle.shm_model.specs.World.{Preset}
use Rattle.shm_logs.specs.Auditing.Audit.{IsAudited}
use Rattle.shm_logs.specs.Auditing.Cause.{IsFirstCause}
use Rattle.shm_logs.specs.Auditing.Logs.{logs_of, AreLogsOf}
use Rattle.shm_logs.specs.declared.site_boxes.site_log.SiteLog.{SiteLog}
use Rattle.shm_audit.specs.declared.journals_error.JournalsFault.{JournalsFault}
use Rattle.shm_audit.specs.declared.journals_error.JournalsFault.TheVariants as cause

-- there is one site or more, and each has its log here
pub record IsOneSet {A : Type 0} (logs : List (SiteLog A)) : Type 0 where
  pub sites : ℕ
  pub pages : ℕ
  pub some : 1 ≤ sites
  pub logs_of_all : AreLogsOf sites pages logs

-- they are a run of a world of one site or more, as some events, in which memory is one plain memory. No receipts are looked at: what callers
-- were told stands in the logs.
pub record AreOneRun {A : Type 0} (logs : List (SiteLog A)) : Type 0 where
  pub sites : ℕ
  pub pages : ℕ
  pub some : 1 ≤ sites
  pub logs_of_all : AreLogsOf sites pages logs
  pub events : List Event
  pub audited : IsAudited (Preset sites pages) (logs_of logs) [] events

-- what a fault says of the logs; that of memory says nothing
abbrev pub IsWhy : {A : Type 0} → List (SiteLog A) → JournalsFault → Type 0
IsWhy logs cause.OutOfMemory = ⊤
IsWhy logs cause.NotOneSet = IsOneSet logs → ⊥
IsWhy logs (cause.Audit f) = IsFirstCause (logs_of logs) [] f
