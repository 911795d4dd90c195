-- What was read of a journal where a fault is answered, or where all is well.
use Rattle.std.specs.Prelude.{◌≡◌, ◌⊎◌, ◌≤◌, ◌<◌, ℕ, ◌+◌, List, [], ◌∷◌, ◌++◌, length, Option}
use Rattle.std.specs.Io.KnownBytes.{Consumes, IsAtEnd}
use Rattle.shm_process.specs.Node.{Node}
use Rattle.shm_journal.specs.Found.{Found, Sound, Bad, bytes_of_lines, lines_of, max_journal_line, site_in}
use Rattle.shm_journal.specs.LinesOf.{Unended}
use Rattle.shm_journal.specs.Stages.{Stage, Telling, InState}
use Rattle.shm_journal.specs.Taking.{most_at_once}
use Rattle.shm_journal.specs.declared.journal_error.JournalFault.{JournalFault}
use Rattle.shm_journal.specs.declared.journal_error.JournalFault.TheVariants as fault

-- no line, or lines that lead somewhere
abbrev pub IsSound : {T : Type 0} → (List ℕ → Found T) → List ℕ → Type 0
IsSound {T} says before = (before ≡ []) ⊎ ((state : T) × (says before ≡ Sound state))

-- a line and its line feed; or the front of one that has one byte too many
abbrev pub IsLine : List ℕ → Type 0
IsLine bytes = (line : List ℕ) × (bytes ≡ line ++ 10 ∷ []) × Unended line × (length line ≤ max_journal_line)

abbrev pub IsTooLong : List ℕ → Type 0
IsTooLong bytes = Unended bytes × (length bytes ≡ max_journal_line + 1)

-- Lines that lead somewhere, then the one that can't be next, which says so whatever follows; and less behind it than one read gives.
pub record StopsAt {T : Type 0} (says : List ℕ → Found T) (old new : Option (List ℕ)) (what : Found T) : Type 0 where
  pub before : List ℕ
  pub line : List ℕ
  pub over : List ℕ
  pub taken : Consumes old new (before ++ (line ++ over))
  pub sound : IsSound says before
  pub is_one : IsLine line ⊎ IsTooLong line
  pub once : length over < most_at_once
  pub bad : (rest : List ℕ) → says (before ++ (line ++ rest)) ≡ what

-- all that there was, in which no line ends: it is the first line that is missing
pub record LacksLine {T : Type 0} (says : List ℕ → Found T) (old new : Option (List ℕ)) (what : Found T) : Type 0 where
  pub bytes : List ℕ
  pub taken : Consumes old new bytes
  pub unended : Unended bytes
  pub short : length bytes ≤ max_journal_line
  pub end : IsAtEnd new
  pub bad : says bytes ≡ what

-- Lines that lead somewhere, then what may be the front of one, and no more behind it than one read gives.
pub record BreaksAt {T : Type 0} (says : List ℕ → Found T) (old new : Option (List ℕ)) : Type 0 where
  pub before : List ℕ
  pub line : List ℕ
  pub over : List ℕ
  pub taken : Consumes old new (before ++ (line ++ over))
  pub sound : IsSound says before
  pub unended : Unended line
  pub short : length line ≤ max_journal_line
  pub once : length over ≤ most_at_once

-- a line that is bad is the last one that was taken; memory may be missing, and the reader fail, anywhere; nothing else is said of single lines
abbrev pub ReadsToLine : {T : Type 0} → (List ℕ → Found T) → Option (List ℕ) → Option (List ℕ) → JournalFault → Type 0
ReadsToLine says old new fault.OutOfMemory = BreaksAt says old new
ReadsToLine says old new fault.ReadFault = BreaksAt says old new
ReadsToLine says old new (fault.BadLine number) = StopsAt says old new (Bad number)
ReadsToLine says old new fault.UnendedState = ⊥
ReadsToLine says old new fault.BeginsWithState = ⊥

-- all that there was: it leads there, and its whole lines have so many bytes
pub record ReadsWhole {T : Type 0} (says : List ℕ → Found T) (old new : Option (List ℕ)) (state : T) (whole : ℕ) : Type 0 where
  pub bytes : List ℕ
  pub taken : Consumes old new bytes
  pub end : IsAtEnd new
  pub sound : says bytes ≡ Sound state
  pub counted : whole ≡ bytes_of_lines (lines_of bytes).whole

-- all that there was ends within a state
abbrev pub EndsInState : (List ℕ → Found Stage) → Option (List ℕ) → Option (List ℕ) → Type 0
EndsInState says old new = (telling : Telling) × (whole : ℕ) × ReadsWhole says old new (InState telling) whole

-- all that there was leads to this node, and its whole lines have so many bytes
abbrev pub ReadsSite : (List ℕ → Found Stage) → Option (List ℕ) → Option (List ℕ) → Node → ℕ → Type 0
ReadsSite says old new node whole = (stage : Stage) × ReadsWhole says old new stage whole × (site_in (Sound stage) ≡ Sound node)
