-- Where what was read of a journal leads.
use Rattle.std.specs.Prelude.{◌≡◌, ℕ, ◌+◌, List, ◌++◌, Option}
use Rattle.std.specs.Io.KnownBytes.{Consumes}
use Rattle.shm_journal.specs.Found.{Found, bytes_of_lines, found_behind, lines_of}

-- Bytes were taken of those that there were, and these are left. Whatever follows them, the whole says what it says from the line of this
-- number on, where it leads from this state; the whole lines of these bytes have so many; and what is torn is torn of what follows.
pub record Leads {T : Type 0} (next : T → List ℕ → Option T) (says : List ℕ → Found T) (before left : Option (List ℕ)) (number : ℕ) (state : T) (whole : ℕ) : Type 0 where
  pub bytes : List ℕ
  pub taken : Consumes before left bytes
  pub onward : (more : List ℕ) → says (bytes ++ more) ≡ found_behind next number state more
  pub counted : (more : List ℕ) → bytes_of_lines (lines_of (bytes ++ more)).whole ≡ whole + bytes_of_lines (lines_of more).whole
  pub torn : (more : List ℕ) → (lines_of (bytes ++ more)).torn ≡ (lines_of more).torn
