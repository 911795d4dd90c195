-- What was written of a script, line by line, and that each byte which a load is told there was stored last.
use Rattle.std.specs.Prelude.{◌≡◌, ◌≤◌, ◌+◌, ℕ, List, ◌++◌, codes, length, slice_get, take, Option, None, Some, Result, Ok, Err}
use Rattle.std.specs.List.{concat}
use Rattle.shm_model.specs.declared.event.Event.TheVariants.{Load}
use Rattle.shm_lines.specs.declared.script_line.Line.{Line}
use Rattle.shm_lines.specs.declared.script_line.Line.TheVariants.{Event as EventLine}
use Rattle.shm_debug.specs.Standing.{Standing}
use Rattle.shm_text.specs.Text.{line_text}
use Rattle.shm_debug.specs.Promise.{IsLastByte}
use Rattle.shm_debug.specs.Said.{said, standing_after}
use Rattle.shm_debug.specs.Script.{Script}
use Rattle.shm_debug.specs.declared.script_summary_and_error.Summary.{Summary}
use Rattle.shm_debug.specs.declared.script_summary_and_error.DebugFault.{DebugFault}
use Rattle.shm_debug.specs.declared.script_summary_and_error.DebugFault.TheVariants.{OutOfMemory, BadLine, LineTooLong, TooManyLines, ReadFault, WriteFault}

-- where the output line of a load says `byte B`, B is the byte stored last to its place by the events that stand before it, or 0
abbrev pub SaysLast : ℕ → Option Standing → Line → List ℕ → Type 0
SaysLast number (Some s) (EventLine (Load site a offset)) output =
    (rest : List ℕ) → output ≡ line_text number (codes "byte " ++ rest) → IsLastByte s site a offset rest
SaysLast number _ _ output = Unit {0}

-- the output line of the script's line of this number, where this stands before it
pub record IsOutputLine (number : ℕ) (s : Option Standing) (line : Line) (output : List ℕ) : Type 0 where
  pub tells : output ≡ line_text number (said s line)
  pub last : SaysLast number s line output

-- the text is the output lines of the first so many lines, one after another
pub record IsOutput (lines : List Line) (count : ℕ) (text : List ℕ) : Type 0 where
  pub outputs : List (List ℕ)
  pub joined : text ≡ concat outputs
  pub counted : length outputs ≡ count
  pub within : count ≤ length lines
  pub each : (n : ℕ) (line : Line) (output : List ℕ) → slice_get lines n ≡ Some line → slice_get outputs n ≡ Some output
      → IsOutputLine (n + 1) (standing_after None (take n lines)) line output

-- of all lines
abbrev pub IsWholeOutput : Script → List ℕ → Type 0
IsWholeOutput script text = IsOutput script.lines (length script.lines) text

-- What was written, by how the replay ended: the output lines of all lines; of some first ones, where memory was refused or reading failed;
-- a front of those of all, where writing failed.
abbrev pub ToldLast : Script → Result Summary DebugFault → List ℕ → Type 0
ToldLast script (Ok summary) text = IsWholeOutput script text
ToldLast script (Err OutOfMemory) text = (count : ℕ) × IsOutput script.lines count text
ToldLast script (Err ReadFault) text = (count : ℕ) × IsOutput script.lines count text
ToldLast script (Err WriteFault) text = (rest : List ℕ) × IsWholeOutput script (text ++ rest)
ToldLast script (Err (BadLine number)) text = IsWholeOutput script text
ToldLast script (Err (LineTooLong number)) text = IsWholeOutput script text
ToldLast script (Err TooManyLines) text = IsWholeOutput script text
