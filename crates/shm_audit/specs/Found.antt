-- What the file of a journal says: the box that its entries lead to, one after another. Only whole lines count: what stands behind the last
-- line feed is torn, and says nothing, unless it is too long for a line. A journal that begins with a state has no whole log.
use Rattle.std.specs.Prelude.{◌≡◌, ⊤, ◌⊎◌, ◌+◌, ◌==◌, ◌&&◌, ℕ, Bool, List, Option, Some, None, Result, Ok, Err, codes, if◌then◌else◌, nat_lt, option_and_then, option_map, take}
use Rattle.std.specs.Str.{bytes_eq}
use Rattle.shm_process.specs.Recorded.{Entry}
use Rattle.shm_place.specs.Limits.{max_sites}
use Rattle.shm_place.specs.Limits as limit
use Rattle.shm_journal.specs.Found.{Found, Sound, Foreign, Bad, Partial, Kind, found_behind, found_of}
use Rattle.shm_journal.specs.Lines.{Header, read_entry, read_header}
use Rattle.shm_journal.specs.ReadUpTo.{BreaksAt, LacksLine, ReadsToLine, ReadsWhole, StopsAt}
use Rattle.shm_journal.specs.declared.journal_error.JournalFault.{JournalFault}
use Rattle.shm_journal.specs.declared.journal_error.JournalFault.TheVariants as fault
use Rattle.shm_logs.specs.Boxes.Box.{Box, new_box}
use Rattle.shm_logs.specs.Boxes.SiteLog.{steps_of}
use Rattle.shm_logs.specs.declared.site_boxes.site_log.SiteLog.{SiteLog}
use Rattle.shm_audit.specs.Entered.{box_after_entry}

-- ---- the first line

abbrev pub in_limits : Header → Bool
in_limits header =
    nat_lt 0 header.sites && nat_lt header.sites (max_sites + 1) && nat_lt header.me header.sites
    && nat_lt 0 header.pages && nat_lt header.pages (limit.pages + 1)

abbrev pub box_if : Header → Option Box
box_if header = if in_limits header then Some (new_box header.sites header.me header.pages) else None

-- the box of the site that the line names, where it is the header of a journal
abbrev pub opened : List ℕ → Option Box
opened line = option_and_then box_if (read_header line)

-- the log that the lines make; or a state, behind which no log is whole
pub data Reading : Type 0 where
  Log : Box → Reading
  Cut : Reading

abbrev pub first_found : Option Box → Found Reading
first_found None = Bad 1
first_found (Some box) = Sound (Log box)

-- ---- the entries

-- a line that begins so is one of a state
abbrev pub begins_as_state : List ℕ → Bool
begins_as_state line = bytes_eq (codes "state ") (take 6 line)

-- a state stands before each step
abbrev pub entered_or_cut : Box → List ℕ → Option Entry → Option Reading
entered_or_cut box line (Some entry) = option_map Log (box_after_entry box entry)
entered_or_cut box line None = if (box.clock == 0) && begins_as_state line then Some Cut else None

-- what stands behind a state is passed over
abbrev pub next_reading : Reading → List ℕ → Option Reading
next_reading (Log box) line = entered_or_cut box line (read_entry line)
next_reading Cut line = Some Cut

-- any site's journal
abbrev pub any : Kind Reading
any = record { first = λ line. first_found (opened line); alone = λ torn. Bad 1; next = next_reading }

abbrev pub reached : List ℕ → Found Reading
reached file = found_of any file

-- what follows the first line
abbrev pub rest_found : Box → List ℕ → Found Reading
rest_found box rest = found_behind next_reading 2 (Log box) rest

abbrev pub whole_log : Found Reading → Found Box
whole_log (Sound (Log box)) = Sound box
whole_log (Sound Cut) = Partial
whole_log Foreign = Foreign
whole_log (Bad number) = Bad number
whole_log Partial = Partial

abbrev pub found : List ℕ → Found Box
found file = whole_log (reached file)

-- ---- what is answered of it

-- the box has this log
pub record HasLog {A : Type 0} (box : Box) (log : SiteLog A) : Type 0 where
  pub sites : box.sites ≡ log.sites
  pub me : box.me ≡ log.me
  pub pages : box.pages ≡ log.pages
  pub steps : box.log ≡ steps_of log

abbrev pub IsLed : {A : Type 0} → Found Box → SiteLog A → Type 0
IsLed (Sound box) log = HasLog box log
IsLed Foreign log = ⊥
IsLed (Bad number) log = ⊥
IsLed Partial log = ⊥

-- a fault of memory or of the reader says nothing
abbrev pub IsFault : Found Box → JournalFault → Type 0
IsFault found (fault.BadLine number) = found ≡ Bad number
IsFault found fault.BeginsWithState = found ≡ Partial
IsFault found fault.OutOfMemory = ⊤
IsFault found fault.ReadFault = ⊤
IsFault found fault.UnendedState = ⊥

abbrev pub TellsLog : {A : Type 0} → Found Box → Result (SiteLog A) JournalFault → Type 0
TellsLog found (Ok log) = IsLed found log
TellsLog found (Err fault) = IsFault found fault

-- all that there was begins with a state
abbrev pub IsCut : (List ℕ → Found Reading) → Option (List ℕ) → Option (List ℕ) → Type 0
IsCut says old new = (whole : ℕ) × ReadsWhole says old new Cut whole

-- What was read where a fault is answered. Where memory is missing or the reader fails: lines that lead on, and what may be the front of one.
-- Else the line that is bad is the last that was taken, or the first is missing; or all was read, and begins with a state.
abbrev pub ReadsUpTo : Option (List ℕ) → Option (List ℕ) → JournalFault → Type 0
ReadsUpTo old new fault.OutOfMemory = BreaksAt reached old new
ReadsUpTo old new fault.ReadFault = BreaksAt reached old new
ReadsUpTo old new (fault.BadLine number) = StopsAt reached old new (Bad number) ⊎ LacksLine reached old new (Bad number)
ReadsUpTo old new fault.BeginsWithState = IsCut reached old new
ReadsUpTo old new fault.UnendedState = ⊥

-- so behind the first line
abbrev pub EntriesReadUpTo : Box → Option (List ℕ) → Option (List ℕ) → JournalFault → Type 0
EntriesReadUpTo box old new fault.BeginsWithState = IsCut (rest_found box) old new
EntriesReadUpTo box old new why = ReadsToLine (rest_found box) old new why

-- all that there was leads to a box that has this log
abbrev pub LeadsToLog : {A : Type 0} → (List ℕ → Found Reading) → Option (List ℕ) → Option (List ℕ) → SiteLog A → Type 0
LeadsToLog says old new log = (box : Box) × (whole : ℕ) × ReadsWhole says old new (Log box) whole × HasLog box log
