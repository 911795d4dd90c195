-- What is said to each line of a script, and what stands after it. Each event's answer is that of the run of the events which stand, from
-- the beginning; nothing else is remembered.
use Rattle.std.specs.Prelude.{ℕ, ◌-◌, List, [], ◌∷◌, length, nat_le, if◌then◌else◌, Option, None, Some}
use Rattle.shm_model.specs.Opening.{opening_of}
use Rattle.shm_model.specs.World as model
use Rattle.shm_model.specs.declared.event.Event.{Event}
use Rattle.shm_lines.specs.declared.script_line.Line.{Line}
use Rattle.shm_lines.specs.declared.script_line.Line.TheVariants as line
use Rattle.shm_debug.specs.Sent.{event_text}
use Rattle.shm_debug.specs.Page.{page_text}
use Rattle.shm_debug.specs.Notice.{notice_text}
use Rattle.shm_debug.specs.declared.non_event_answer.Notice.TheVariants as notice
use Rattle.shm_debug.specs.Standing.{Standing, with_event, without_last, world_of}

-- an event: its answer, and the envelopes that it sent
abbrev pub said_to_event : Standing → Event → List ℕ
said_to_event s e = event_text (model.next (world_of s) e).done.answer (world_of (with_event s e)) (length (world_of s).sent)

-- going back, where so many events stand: how many stand after it, or that there are fewer
abbrev pub said_to_back : Standing → ℕ → List ℕ
said_to_back s n = if nat_le n (length s.events) then notice_text (notice.Back (length s.events - n)) else notice_text notice.PastBeginning

-- before the first line nothing stands, and no other line has an answer there
abbrev pub said : Option Standing → Line → List ℕ
said s (line.Sites opening) = notice_text notice.Ready
said None (line.Event e) = []
said None (line.Show page) = []
said None (line.Back n) = []
said (Some s) (line.Event e) = said_to_event s e
said (Some s) (line.Show page) = page_text (world_of s) page
said (Some s) (line.Back n) = said_to_back s n

abbrev pub next_back : Standing → ℕ → Standing
next_back s n = if nat_le n (length s.events) then without_last s n else s

-- what stands after a line
abbrev pub next : Option Standing → Line → Option Standing
next s (line.Sites opening) = Some (record { opening = opening_of opening; events = [] })
next None (line.Event e) = None
next None (line.Show page) = None
next None (line.Back n) = None
next (Some s) (line.Event e) = Some (with_event s e)
next (Some s) (line.Show page) = Some s
next (Some s) (line.Back n) = Some (next_back s n)

abbrev pub standing_after : Option Standing → List Line → Option Standing
standing_after s [] = s
standing_after s (x ∷ xs) = standing_after (next s x) xs
