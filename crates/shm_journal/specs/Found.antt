-- What is found in the file of a journal. A line stands before its line feed; what stands behind the last line feed is torn: a crash
-- cut it short, and it counts for nothing, unless it is too long for a line, or stands alone and is no front of the header. A file that ends
-- within a state leads to no site.
use Rattle.std.specs.Prelude.{ℕ, ◌+◌, ◌==◌, Bool, true, false, List, [], ◌∷◌, ◌++◌, Option, Some, None, if◌then◌else◌, length, nat_lt, take}
use Rattle.std.specs.Str.{bytes_eq}
use Rattle.shm_process.specs.Node.{Node}
use Rattle.shm_journal.specs.Lines.{Header, header_line, read_header}
use Rattle.shm_journal.specs.Stages.{Stage, Opened, InState, Open, begun, next_stage}
pub use Rattle.shm_journal.specs.Stages.{opened, replayed_line}
unfoldable pub use Rattle.shm_journal.specs.Stages.{replayed_entry}

-- ---- lines

-- the whole lines, behind what was read of the first; and what is torn
pub record Lines : Type 0 where
  pub whole : List (List ℕ)
  pub torn : List ℕ

abbrev pub with_line : List ℕ → Lines → Lines
with_line line lines = record lines { whole = line ∷ lines.whole }

unfoldable pub lines_behind : List ℕ → List ℕ → Lines
lines_behind line [] = record { whole = []; torn = line }
lines_behind line (byte ∷ bytes) = if byte == 10 then with_line line (lines_behind [] bytes) else lines_behind (line ++ byte ∷ []) bytes

abbrev pub lines_of : List ℕ → Lines
lines_of file = lines_behind [] file

-- the bytes of whole lines, with their line feeds
abbrev pub bytes_of_lines : List (List ℕ) → ℕ
bytes_of_lines [] = 0
bytes_of_lines (line ∷ lines) = length line + 1 + bytes_of_lines lines

abbrev pub is_empty : List (List ℕ) → Bool
is_empty [] = true
is_empty (line ∷ lines) = false

-- ---- what they say

-- what they lead to; or that it is the journal of another site, of so many others, or of another opening; or the number of the first line,
-- from 1, that is none of a journal's, or records steps that can't be the site's next ones; or that it is only a part of what has to be there
pub data Found (T : Type 0) : Type 0 where
  Sound : T → Found T
  Foreign : Found T
  Bad : ℕ → Found T
  Partial : Found T

-- the bytes that a line has at most, less its line feed: `step `, the greatest clock, a blank, and the longest line that a site takes
abbrev pub max_journal_line : ℕ
max_journal_line = 8218

abbrev pub is_long : List ℕ → Bool
is_long line = nat_lt max_journal_line (length line)

-- a line that is too long is none, whatever it says; and so is what is torn
abbrev pub unless_long : {T : Type 0} → ℕ → List ℕ → Found T → Found T
unless_long number line says = if is_long line then Bad number else says

abbrev pub next_found : {T : Type 0} → ℕ → Option T → (T → Found T) → Found T
next_found number None onward = Bad number
next_found number (Some state) onward = onward state

-- the entries from this number on lead there, one after another; what is torn may be the front of one
unfoldable pub found_from : {T : Type 0} → (T → List ℕ → Option T) → ℕ → T → List (List ℕ) → List ℕ → Found T
found_from next number state [] torn = unless_long number torn (Sound state)
found_from next number state (line ∷ lines) torn =
    unless_long number line (next_found number (next state line) (λ after. found_from next (number + 1) after lines torn))

-- what these bytes say, which begin with the line of this number
abbrev pub found_behind : {T : Type 0} → (T → List ℕ → Option T) → ℕ → T → List ℕ → Found T
found_behind next number state rest = let lines = lines_of rest in found_from next number state lines.whole lines.torn

-- ---- a whole file

-- what a reader makes of a journal: of its first line, of what is torn where there is no whole line, and of each further line
pub record Kind (T : Type 0) : Type 0 where
  pub first : List ℕ → Found T
  pub alone : List ℕ → Found T
  pub next : T → List ℕ → Option T

abbrev pub then_found : {T : Type 0} → Found T → (T → Found T) → Found T
then_found (Sound state) onward = onward state
then_found Foreign onward = Foreign
then_found (Bad number) onward = Bad number
then_found Partial onward = Partial

abbrev pub found_in : {T : Type 0} → Kind T → List (List ℕ) → List ℕ → Found T
found_in kind [] torn = unless_long 1 torn (kind.alone torn)
found_in kind (line ∷ lines) torn = unless_long 1 line (then_found (kind.first line) (λ state. found_from kind.next 2 state lines torn))

abbrev pub found_of : {T : Type 0} → Kind T → List ℕ → Found T
found_of kind file = let lines = lines_of file in found_in kind lines.whole lines.torn

-- ---- a site's own journal

-- another header is another's journal, and anything else none
abbrev pub not_own : Option Header → Found Stage
not_own None = Bad 1
not_own (Some header) = Foreign

abbrev pub own : Header → Kind Stage
own header = record {
  first = λ line. if bytes_eq line (header_line header) then Sound (begun header) else not_own (read_header line);
  alone = λ torn. if bytes_eq torn (take (length torn) (header_line header)) then Sound (begun header) else Bad 1;
  next = next_stage;
}

-- how far the lines of this file lead
abbrev pub reached : Header → List ℕ → Found Stage
reached header file = found_of (own header) file

-- within a state they lead to no site
abbrev pub site_in : Found Stage → Found Node
site_in (Sound (Opened node telling)) = Sound node
site_in (Sound (InState telling)) = Partial
site_in (Sound (Open node)) = Sound node
site_in Foreign = Foreign
site_in (Bad number) = Bad number
site_in Partial = Partial

-- what follows the first line, from this stage on
abbrev pub rest_found : Stage → List ℕ → Found Stage
rest_found stage rest = found_behind next_stage 2 stage rest

-- what the site of this header finds in this file
abbrev pub found : Header → List ℕ → Found Node
found header file = site_in (reached header file)
