-- How the page of a script ends, and what was written of it by then.
use Rattle.std.specs.Prelude.{ℕ, List, [], Option, None, Some, Result}
use Rattle.shm_place.specs.declared.page_id.PageId.{PageId}
use Rattle.shm_debug.specs.Standing.{Standing}
use Rattle.shm_debug.specs.Said.{standing_after}
use Rattle.shm_debug.specs.Script.{Script}
use Rattle.shm_debug.specs.declared.script_summary_and_error.DebugFault.{DebugFault}
use Rattle.shm_draw.specs.Captions.{Beside}
use Rattle.shm_draw.specs.Drawn.{Writes}
use Rattle.shm_steps.specs.Steps.{page_text}

-- the page of what stands, with these captions; before the first line nothing does
abbrev pub stepping : Option PageId → List Beside → Option Standing → List ℕ
stepping page besides None = []
stepping page besides (Some s) = page_text page s.opening s.events besides

-- Where the script has no fault the page of what it leaves is written; a front of it, where writing fails; otherwise nothing is.
abbrev pub TellsSteps : Option PageId → List Beside → Script → Result (Unit {0}) DebugFault → List ℕ → Type 0
TellsSteps page besides script = Writes (stepping page besides (standing_after None script.lines)) script
