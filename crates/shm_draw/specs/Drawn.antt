-- How drawing a script ends, and what it has written by then.
use Rattle.std.specs.Prelude.{◌≡◌, ℕ, List, [], ◌++◌, Option, None, Some, Result, Ok, Err}
use Rattle.shm_place.specs.declared.page_id.PageId.{PageId}
use Rattle.shm_model.specs.World.{IsOpening, opened}
use Rattle.shm_debug.specs.Standing.{Standing}
use Rattle.shm_debug.specs.Said.{standing_after}
use Rattle.shm_debug.specs.Script.{Script}
use Rattle.shm_debug.specs.declared.script_summary_and_error.DebugFault.{DebugFault}
use Rattle.shm_debug.specs.declared.script_summary_and_error.DebugFault.TheVariants.{OutOfMemory, BadLine, LineTooLong, TooManyLines, ReadFault, WriteFault}
use Rattle.shm_draw.specs.Captions.{Beside}
use Rattle.shm_draw.specs.Svg.{svg_text}

-- the picture of what stands, with these captions; before the first line nothing does
abbrev pub drawing : Option PageId → List Beside → Option Standing → List ℕ
drawing page besides None = []
drawing page besides (Some s) = svg_text page (opened s.opening) s.events besides

-- the picture of what stands after the script's lines
abbrev pub drawing_of : Option PageId → List Beside → Script → List ℕ
drawing_of page besides script = drawing page besides (standing_after None script.lines)

-- the script's own fault, and nothing is written
abbrev pub IsFaultOf : Script → DebugFault → List ℕ → Type 0
IsFaultOf script fault text = (script.fault ≡ Some fault) × (text ≡ [])

-- a front of what is drawn of a script without a fault
abbrev pub IsFrontOf : List ℕ → Script → List ℕ → Type 0
IsFrontOf drawn script text = (script.fault ≡ None) × ((rest : List ℕ) × (drawn ≡ text ++ rest))

-- Where the script has no fault, what is drawn of it is written; a front of it, where writing fails; otherwise nothing is.
abbrev pub Writes : List ℕ → Script → Result (Unit {0}) DebugFault → List ℕ → Type 0
Writes drawn script (Ok _) text = (script.fault ≡ None) × (text ≡ drawn)
Writes drawn script (Err OutOfMemory) text = text ≡ []
Writes drawn script (Err ReadFault) text = text ≡ []
Writes drawn script (Err WriteFault) text = IsFrontOf drawn script text
Writes drawn script (Err (BadLine number)) text = IsFaultOf script (BadLine number) text
Writes drawn script (Err (LineTooLong number)) text = IsFaultOf script (LineTooLong number) text
Writes drawn script (Err TooManyLines) text = IsFaultOf script TooManyLines text

-- so its picture
abbrev pub Draws : Option PageId → List Beside → Script → Result (Unit {0}) DebugFault → List ℕ → Type 0
Draws page besides script = Writes (drawing_of page besides script) script

-- what stands began as a world may
abbrev pub BeganRight : Option Standing → Type 0
BeganRight None = Unit {0}
BeganRight (Some s) = IsOpening s.opening

-- the script has no fault, and this stands after its lines
pub record LeadsTo (script : Script) (standing : Option Standing) : Type 0 where
  pub whole : script.fault ≡ None
  pub stands : standing ≡ standing_after None script.lines

-- why a script was not read to its end; nothing is written before that
abbrev pub Stopped : Script → DebugFault → Type 0
Stopped script OutOfMemory = Unit {0}
Stopped script ReadFault = Unit {0}
Stopped script WriteFault = ⊥
Stopped script (BadLine number) = script.fault ≡ Some (BadLine number)
Stopped script (LineTooLong number) = script.fault ≡ Some (LineTooLong number)
Stopped script TooManyLines = script.fault ≡ Some TooManyLines
