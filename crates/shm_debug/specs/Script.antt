-- Scripts: from bytes to lines. A line ends with a line feed; what stands after the last line feed is no line.
use Rattle.std.specs.Prelude.{ℕ, ◌+◌, ◌==◌, ◌&&◌, if◌then◌else◌, List, [], ◌∷◌, ◌++◌, length, nat_lt, Option, None, Some, Result, Ok, Err}
use Rattle.std.specs.List.{slice_split}
use Rattle.shm_lines.specs.Line.{line_of, may_stand}
use Rattle.shm_lines.specs.declared.script_line.Line.{Line}
use Rattle.shm_debug.specs.Limits.{max_line_bytes, max_lines}
use Rattle.shm_debug.specs.declared.script_summary_and_error.DebugFault.{DebugFault}
use Rattle.shm_debug.specs.declared.script_summary_and_error.DebugFault.TheVariants.{BadLine, LineTooLong, TooManyLines}

-- the lines up to the end, or up to the first fault
pub record Script : Type 0 where
  pub lines : List Line
  pub fault : Option DebugFault

abbrev pub whole : Script
whole = record { lines = []; fault = None }

abbrev pub broken : DebugFault → Script
broken fault = record { lines = []; fault = Some fault }

-- the lines, and then the script
abbrev pub after : List Line → Script → Script
after lines script = record { lines = lines ++ script.lines; fault = script.fault }

-- a line where it may stand, or a bad line
abbrev pub placed : ℕ → Option Line → Result Line DebugFault
placed number None = Err (BadLine number)
placed number (Some line) = if may_stand number line then Ok line else Err (BadLine number)

-- what the line of this number says
abbrev pub read_line : ℕ → List ℕ → Result Line DebugFault
read_line number bytes =
    if nat_lt max_lines number then Err TooManyLines
    else if nat_lt max_line_bytes (length bytes) then Err (LineTooLong number)
    else placed number (line_of bytes)

-- the script that goes on so after its first line was read
abbrev pub begun : Result Line DebugFault → Script → Script
begun (Ok line) script = after (line ∷ []) script
begun (Err fault) script = broken fault

-- what stands after the last line feed is a bad line, unless it breaks a limit
abbrev pub unended : ℕ → Result Line DebugFault → Script
unended number (Ok line) = broken (BadLine number)
unended number (Err fault) = broken fault

-- from the line of this number on, in the parts that the line feeds leave
abbrev pub read_on : ℕ → List (List ℕ) → Script
read_on number [] = whole
read_on number (rest ∷ []) = if (length rest == 0) && nat_lt 1 number then whole else unended number (read_line number rest)
read_on number (bytes ∷ next ∷ others) = begun (read_line number bytes) (read_on (number + 1) (next ∷ others))

abbrev pub parts_of : List ℕ → List (List ℕ)
parts_of bytes = slice_split (λ byte. byte == 10) bytes

abbrev pub script_of : List ℕ → Script
script_of bytes = read_on 1 (parts_of bytes)
