-- A script that is being read: what was read of it, and what it says from there on, whatever follows.
use Rattle.std.specs.Prelude.{◌≡◌, ℕ, ◌+◌, ◌*◌, ◌<◌, ◌≤◌, ◌==◌, true, false, List, [], ◌∷◌, ◌++◌, length, nat_lt, All, Option, None, is_some, Result, Ok, Err}
use Rattle.shm_lines.specs.Line.{may_stand}
use Rattle.shm_lines.specs.Spelling.{IsLine}
use Rattle.shm_debug.specs.Limits.{max_line_bytes, max_bytes, max_lines}
use Rattle.shm_text.specs.Text.{line_text}
use Rattle.shm_debug.specs.Script.{Script, after, whole, broken, read_on, parts_of}
use Rattle.shm_debug.specs.Said.{next, said, standing_after}
use Rattle.shm_debug.specs.Replay.{summary_at}
use Rattle.shm_debug.specs.Output.{text_from}
use Rattle.shm_lines.specs.declared.script_line.Line.{Line}
use Rattle.shm_debug.specs.Standing.{Standing}
use Rattle.shm_debug.specs.declared.script_summary_and_error.Summary.{Summary}
use Rattle.shm_debug.specs.declared.script_summary_and_error.DebugFault.{DebugFault}
use Rattle.shm_debug.specs.declared.script_summary_and_error.DebugFault.TheVariants.{OutOfMemory, BadLine, LineTooLong, TooManyLines, ReadFault, WriteFault}

-- the whole lines that were read, what stands after them, and what was read of the next
pub record Moment : Type 0 where
  pub lines : ℕ
  pub standing : Option Standing
  pub line : List ℕ

abbrev pub start : Moment
start = record { lines = 0; standing = None; line = [] }

-- what the script says after this moment, where these bytes follow
abbrev pub rest_of : Moment → List ℕ → Script
rest_of m bytes = read_on (m.lines + 1) (parts_of (m.line ++ bytes))

-- the most bytes that can have been read
abbrev pub reach : Moment → ℕ
reach m = m.lines * (max_line_bytes + 1) + length m.line

-- the moment after bytes that end no line
abbrev pub gathered : Moment → List ℕ → Moment
gathered m bytes = record { lines = m.lines; standing = m.standing; line = m.line ++ bytes }

-- the moment after a line feed, where the line that it ends may stand
abbrev pub passed : Moment → Line → Moment
passed m line = record { lines = m.lines + 1; standing = next m.standing line; line = [] }

-- these bytes lead from one moment to another, and end these lines
pub record Onward (old : Moment) (bytes : List ℕ) (lines : List Line) (new : Moment) : Type 0 where
  pub rest : (more : List ℕ) → rest_of old (bytes ++ more) ≡ after lines (rest_of new more)
  pub count : new.lines ≡ old.lines + length lines
  pub stands : new.standing ≡ standing_after old.standing lines
  pub reached : reach old + length bytes ≤ reach new

-- the output grew by what is said to these lines
abbrev pub WritesLines : Moment → List Line → List ℕ → List ℕ → Type 0
WritesLines m lines old new = new ≡ old ++ text_from (m.lines + 1) m.standing lines

-- the script, where it begins with these bytes, has these lines and more
abbrev pub Begins : Moment → List ℕ → List Line → Type 0
Begins m bytes lines = (more : List ℕ) → (others : List Line) × ((rest_of m (bytes ++ more)).lines ≡ lines ++ others)

-- the script, where it begins with these bytes, has these lines and then the fault
abbrev pub Breaks : Moment → List ℕ → List Line → DebugFault → Type 0
Breaks m bytes lines fault = (more : List ℕ) → rest_of m (bytes ++ more) ≡ after lines (broken fault)

-- what a fault says of the script where it comes after these lines, while bytes that were read are played; neither reading nor writing fails then
abbrev pub Stops : Moment → List ℕ → List Line → DebugFault → Type 0
Stops m bytes lines OutOfMemory = Begins m bytes lines
Stops m bytes lines ReadFault = ⊥
Stops m bytes lines WriteFault = ⊥
Stops m bytes lines (BadLine number) = Breaks m bytes lines (BadLine number)
Stops m bytes lines (LineTooLong number) = Breaks m bytes lines (LineTooLong number)
Stops m bytes lines TooManyLines = Breaks m bytes lines TooManyLines

abbrev pub Plays : Moment → List ℕ → Moment → List ℕ → List ℕ → Type 0
Plays m bytes new text text' = (lines : List Line) × Onward m bytes lines new × WritesLines m lines text text'

abbrev pub Fails : Moment → List ℕ → DebugFault → List ℕ → List ℕ → Type 0
Fails m bytes fault text text' = (lines : List Line) × Stops m bytes lines fault × WritesLines m lines text text'

-- these bytes and a line feed end this line, which may stand there: they are played where it is told what is said to it
pub record Completes (m : Moment) (bytes : List ℕ) (line : Line) : Type 0 where
  pub within : m.lines < max_lines
  pub placed : may_stand (m.lines + 1) line ≡ true
  pub spelled : IsLine line
  pub plays : (text text' : List ℕ) → text' ≡ text ++ line_text (m.lines + 1) (said m.standing line) → Plays m (bytes ++ 10 ∷ []) (passed m line) text text'

-- how a script ends whose input ends at this moment
abbrev pub Ended : Moment → Result Summary DebugFault → Type 0
Ended m (Ok summary) = (rest_of m [] ≡ whole) × (summary ≡ summary_at m.lines m.standing)
Ended m (Err fault) = (rest_of m [] ≡ broken fault) × (fault ≡ BadLine (m.lines + 1))

-- what is true of a moment: the limits are kept, the line hasn't ended, and something stands from the first line on
pub record IsBeingRead (lines : ℕ) (standing : Option Standing) (line : List ℕ) : Type 0 where
  pub within : lines * (max_line_bytes + 1) + length line < max_bytes
  pub short : length line ≤ max_line_bytes
  pub unended : All (λ byte. (byte == 10) ≡ false) line
  pub opened : is_some standing ≡ nat_lt 0 lines
