-- What a wrong line is, where more can be told of it than where it can't be read on.
use Rattle.std.specs.Prelude.{ℕ, ◌-◌, ◌==◌, ◌||◌, Bool, if◌then◌else◌, List, length, slice_index, is_some, Option, None, Some}
use Rattle.shm_place.specs.Limits.{pages}
use Rattle.shm_model.specs.Book.{max_sites}
use Rattle.shm_lines.specs.Line.{line_of, may_stand}
use Rattle.shm_lines.specs.Workload.{access_of, preset_of}
use Rattle.shm_lines.specs.declared.script_line.Line.{Line}
use Rattle.shm_lines.specs.declared.hints.remark.Remark.{Remark}
use Rattle.shm_lines.specs.declared.hints.remark.Remark.TheVariants.{Blank, CarriageReturn, Comment, FirstLine, OfScript, OfWorkload, Outside, Unended}

-- `#` or `/`, with which no line begins
abbrev pub is_comment : List ℕ → Bool
is_comment line = (slice_index line 0 == 35) || (slice_index line 0 == 47)

abbrev pub ends_with_return : List ℕ → Bool
ends_with_return line = slice_index line (length line - 1) == 13

-- of a line of either kind
abbrev pub form_remark : List ℕ → Option Remark
form_remark line =
    if length line == 0 then Some Blank
    else if is_comment line then Some Comment
    else if ends_with_return line then Some CarriageReturn
    else None

-- A first line of a workload, or an access of the most sites and pages that there may be.
abbrev pub is_of_workload : List ℕ → Bool
is_of_workload line = is_some (preset_of line) || is_some (access_of max_sites pages line)

abbrev pub is_of_script : List ℕ → Bool
is_of_script line = is_some (line_of line)

-- A line that can be read is wrong where it may not stand, or where no line feed ends it.
abbrev pub place_remark : Bool → Remark
place_remark stands = if stands then Unended else FirstLine

abbrev pub or_else : Option Remark → Option Remark → Option Remark
or_else None other = other
or_else (Some remark) other = Some remark

abbrev pub read_remark : ℕ → Bool → Option Line → Option Remark
read_remark number other (Some line) = Some (place_remark (may_stand number line))
read_remark number other None = if other then Some OfWorkload else None

-- of the wrong line of this number in a script
abbrev pub script_remark : ℕ → List ℕ → Option Remark
script_remark number line = or_else (form_remark line) (read_remark number (is_of_workload line) (line_of line))

-- of the wrong line of this number in a workload
abbrev pub workload_remark : ℕ → List ℕ → Option Remark
workload_remark number line = or_else (form_remark line)
    (if is_some (preset_of line) then Some (place_remark (number == 1))
    else if is_some (access_of max_sites pages line) then Some (if number == 1 then FirstLine else Outside)
    else if is_of_script line then Some OfScript
    else None)
