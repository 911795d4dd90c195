-- A line that is read, and what it leaves to give.
use Rattle.std.specs.Prelude.{ℕ, ◌-◌, Bool, List, [], ◌∷◌, ◌++◌, drop, if◌then◌else◌, length, take}
use Rattle.std.specs.Str.{bytes_eq}
use Rattle.shm_journal.specs.LinesOf.{Unended}
use Rattle.shm_batches.specs.Whole.{unmarked_text}

-- a line with its line feed
abbrev pub is_ended : List ℕ → Bool
is_ended line = bytes_eq (10 ∷ []) (drop (length line - 1) line)

-- what may be a line, or the front of one: only its last byte may be a line feed
abbrev pub IsOneLine : List ℕ → Type 0
IsOneLine line = Unended (take (length line - 1) line)

-- the rest of a line from there on, and what follows; or the lines that begin with this front
abbrev pub left_of_line : List ℕ → ℕ → List ℕ → List ℕ
left_of_line line at rest = if is_ended line then drop at line ++ unmarked_text rest else unmarked_text (line ++ rest)
