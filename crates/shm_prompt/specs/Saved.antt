-- The script of what stands, and what a replay makes of it.
use Rattle.std.specs.Prelude.{◌≡◌, ℕ, List, [], ◌∷◌, ◌++◌, map, None, Some}
use Rattle.shm_model.specs.World.{Opening, New, Preset, Framed}
use Rattle.shm_lines.specs.Line.{sites_line}
use Rattle.shm_lines.specs.declared.script_line.Line.{Line}
use Rattle.shm_lines.specs.declared.script_line.Line.TheVariants.{Event}
use Rattle.shm_debug.specs.Said.{standing_after}
use Rattle.shm_debug.specs.Script.{script_of}
use Rattle.shm_debug.specs.Standing.{Standing}
use Rattle.shm_prompt.specs.Spelled.{line_bytes}

-- the line that says how the sites begin
abbrev pub first_line : Opening → Line
first_line (New sites) = sites_line sites None None
first_line (Preset sites pages) = sites_line sites (Some pages) None
first_line (Framed sites pages frames) = sites_line sites (Some pages) (Some frames)

-- it, and a line for each event that stands, the oldest first
abbrev pub lines_of : Standing → List Line
lines_of s = first_line s.opening ∷ map Event s.events

-- each line as it is spelled, with a line feed
abbrev pub text_of_lines : List Line → List ℕ
text_of_lines [] = []
text_of_lines (line ∷ lines) = line_bytes line ++ text_of_lines lines

-- These bytes are a script without a fault, whose lines are those; and what stands after them is what is saved: the same opening and the
-- same events.
pub record Replays (bytes : List ℕ) (s : Standing) : Type 0 where
  pub reads : script_of bytes ≡ record { lines = lines_of s; fault = None }
  pub stands : standing_after None (lines_of s) ≡ Some s
