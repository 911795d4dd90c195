-- What is taken of a reader's next line.
use Rattle.std.specs.Prelude.{⊤, ◌≡◌, ◌≤◌, ◌<◌, ℕ, ◌+◌, List, [], ◌∷◌, ◌++◌, length, Option}
use Rattle.std.specs.Io.KnownBytes.{Consumes, IsAtEnd}
use Rattle.shm_journal.specs.Found.{max_journal_line}
use Rattle.shm_journal.specs.LinesOf.{Unended, behind, line_in}
use Rattle.shm_journal.specs.declared.journal_error.JournalFault.{JournalFault}
use Rattle.shm_journal.specs.declared.journal_error.JournalFault.TheVariants as fault
use Rattle.shm_journal.specs.declared.line_reader.Lines.{Lines}
use Rattle.shm_journal.specs.declared.line_read_outcome.Taken.{Taken}
use Rattle.shm_journal.specs.declared.line_read_outcome.Taken.TheVariants as taken

-- the most that one read gives
abbrev pub most_at_once : ℕ
most_at_once = 8192

-- the front of a line, with one byte too many
pub record Overruns (before left : Option (List ℕ)) : Type 0 where
  pub front : List ℕ
  pub taken : Consumes before left front
  pub unended : Unended front
  pub long : length front ≡ max_journal_line + 1

-- the line and its line feed; or what there was of it; or one byte too many
abbrev pub Takes : Taken → Option (List ℕ) → Option (List ℕ) → Option (List ℕ) → List ℕ → Type 0
Takes taken.Whole before left remaining line = Consumes before left (line ++ 10 ∷ [])
Takes taken.Torn before left remaining line = Consumes before left line × IsAtEnd remaining × IsAtEnd left
Takes taken.TooLong before left remaining line = Overruns before left

-- a whole line counts, with its line feed
abbrev pub whole_with : Taken → ℕ → List ℕ → ℕ
whole_with taken.Whole whole line = whole + (length line + 1)
whole_with _ whole line = whole

-- the fault says nothing of the lines
abbrev pub IsOther : JournalFault → Type 0
IsOther fault.OutOfMemory = ⊤
IsOther fault.ReadFault = ⊤
IsOther _ = ⊥

-- Where memory is missing or the reader fails: what was read may be the front of a line, and no more behind it than one read gives.
pub record BreaksOff (before now : Option (List ℕ)) (why : JournalFault) : Type 0 where
  pub line : List ℕ
  pub over : List ℕ
  pub taken : Consumes before now (line ++ over)
  pub unended : Unended line
  pub short : length line ≤ max_journal_line
  pub once : length over ≤ most_at_once
  pub other : IsOther why

-- so where nothing was taken of it yet
pub record ReadsOver (before now : Option (List ℕ)) (why : JournalFault) : Type 0 where
  pub over : List ℕ
  pub taken : Consumes before now over
  pub once : length over ≤ most_at_once
  pub other : IsOther why

-- ---- what one read gave of it

-- the rest of the line, and its line feed
pub record EndsIn {A : Type 0} (old new : Lines A) : Type 0 where
  pub part : List ℕ
  pub cut : behind old ≡ part ++ 10 ∷ behind new
  pub unended : Unended part
  pub line : line_in new ≡ old.front.items ++ part
  pub whole : new.whole ≡ old.whole + (length (line_in new) + 1)
  pub once : length (behind new) < most_at_once

-- all of it is of the line
pub record GoesOnIn {A : Type 0} (old new : Lines A) : Type 0 where
  pub unended : Unended (behind old)
  pub front : new.front.items ≡ old.front.items ++ behind old
  pub none : behind new ≡ []
  pub len : new.len ≡ 0
  pub whole : new.whole ≡ old.whole

-- one byte too many
pub record OverrunsIn {A : Type 0} (old new : Lines A) : Type 0 where
  pub part : List ℕ
  pub cut : behind old ≡ part ++ behind new
  pub unended : Unended part
  pub long : length old.front.items + length part ≡ max_journal_line + 1
  pub front : new.front.items ≡ old.front.items
  pub len : new.len ≡ 0
  pub whole : new.whole ≡ old.whole
  pub once : length (behind new) < most_at_once

abbrev pub TakesPart : {A : Type 0} → Taken → Lines A → Lines A → Type 0
TakesPart taken.Whole old new = EndsIn old new
TakesPart taken.Torn old new = GoesOnIn old new
TakesPart taken.TooLong old new = OverrunsIn old new
