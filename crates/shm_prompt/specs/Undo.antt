-- `undo`: the last event that changed something, and what taking it back makes of what stands.
use Rattle.std.specs.Prelude.{ℕ, zero, suc, ◌+◌, Bool, true, false, List, ◌++◌, codes, if◌then◌else◌, length, Option, None, Some, slice_get}
use Rattle.std.specs.Fmt.{decimal}
use Rattle.shm_model.specs.World.{World, next}
use Rattle.shm_model.specs.declared.answer.Answer.{Answer}
use Rattle.shm_model.specs.declared.answer.Answer.TheVariants.{Byte, Waiting, Refused}
use Rattle.shm_model.specs.declared.event.Event.{Event}
use Rattle.shm_lines.specs.Spelling.{spelling}
use Rattle.shm_lines.specs.declared.script_line.Line.TheVariants.{Event as EventLine}
use Rattle.shm_text.specs.Text.{line_text}
use Rattle.shm_debug.specs.Standing.{Standing, first_events, world_of}

-- an event changed nothing that is answered by a byte or a refusal, or that waits for an earlier request
abbrev pub tells_change : Answer → Bool
tells_change (Byte byte) = false
tells_change Waiting = false
tells_change (Refused number) = false
tells_change _ = true

abbrev pub changes_at : World → Option Event → Bool
changes_at w None = false
changes_at w (Some e) = tells_change (next w e).done.answer

-- whether the event in this place, from 0, changed something
abbrev pub has_changed : Standing → ℕ → Bool
has_changed s i = changes_at (world_of (first_events i s)) (slice_get s.events i)

-- the place of the last of the first n events that changed something
abbrev pub last_change : Standing → ℕ → Option ℕ
last_change s zero = None
last_change s (suc n) = if has_changed s n then Some n else last_change s n

-- ---- what `undo` makes of what stands, and what it tells

abbrev pub unchanged_text : List ℕ
unchanged_text = codes "refused 28: no event that stands has changed anything"

-- how many events stand then, and which one was taken back
abbrev pub undone_text : ℕ → Event → List ℕ
undone_text i e = codes "back " ++ (decimal i ++ (codes ": " ++ spelling (EventLine e)))

-- back to before the event in this place, where one is there
abbrev pub undone_at : Standing → ℕ → Option Event → Standing
undone_at s i None = s
undone_at s i (Some e) = first_events i s

abbrev pub told_at : Standing → ℕ → Option Event → List ℕ
told_at s i None = line_text (length s.events + 1) unchanged_text
told_at s i (Some e) = line_text (length (first_events i s).events + 1) (undone_text i e)

abbrev pub undone_by : Standing → Option ℕ → Standing
undone_by s None = s
undone_by s (Some i) = undone_at s i (slice_get s.events i)

abbrev pub told_by : Standing → Option ℕ → List ℕ
told_by s None = line_text (length s.events + 1) unchanged_text
told_by s (Some i) = told_at s i (slice_get s.events i)

-- the last event that changed something is taken back, and what stands behind it
abbrev pub undone : Standing → Standing
undone s = undone_by s (last_change s (length s.events))

abbrev pub told_of_undo : Standing → List ℕ
told_of_undo s = told_by s (last_change s (length s.events))
