-- What is promised of a script, wherever it is read up to.
use Rattle.std.specs.Prelude.{◌≡◌, ℕ, List, ◌++◌, codes, length, slice_get, take, Option, None, Some}
use Rattle.std.specs.Fmt.{decimal}
use Rattle.shm_model.specs.declared.event.Event.TheVariants.{Load}
use Rattle.shm_model.specs.Memory.{last_store, segment_of}
use Rattle.shm_model.specs.World.{run}
use Rattle.shm_lines.specs.declared.script_line.Line.{Line}
use Rattle.shm_lines.specs.declared.script_line.Line.TheVariants.{Event as EventLine}
use Rattle.shm_debug.specs.Standing.{Standing, with_event, world_of}
use Rattle.shm_debug.specs.Sent.{sent_text}
use Rattle.shm_model.specs.Promise.{Promised}
use Rattle.shm_debug.specs.Said.{said_to_event, standing_after}

-- the headline, of the run of what stands
abbrev pub KeepsPromise : Option Standing → Type 0
KeepsPromise None = Unit {0}
KeepsPromise (Some s) = Promised s.opening s.events

-- After each line it holds of what stands then: each byte that was loaded is the one stored last to its place, and so on.
abbrev pub AlwaysKept : List Line → Type 0
AlwaysKept lines = (n : ℕ) → KeepsPromise (standing_after None (take n lines))

-- This follows `byte `, where a load of these is told so: the byte stored last to its place by the events that stand before it, or 0 where
-- there is none (Li and Hudak 1989, §2); the place is in the segment that the attachment names then. The envelopes that were sent follow.
abbrev pub IsLastByte : Standing → ℕ → ℕ → ℕ → List ℕ → Type 0
IsLastByte s site a offset rest =
    (id : ℕ) × (segment_of s.opening (run s.opening s.events).account site a ≡ Some id)
    × (rest ≡ decimal (last_store s.opening (run s.opening s.events).account id offset)
    ++ sent_text (world_of (with_event s (Load site a offset))) (length (world_of s).sent))

-- where a load is told `byte B`, B is that byte
abbrev pub TellsLast : Option Standing → Line → Type 0
TellsLast (Some s) (EventLine (Load site a offset)) =
    (rest : List ℕ) → said_to_event s (Load site a offset) ≡ codes "byte " ++ rest → IsLastByte s site a offset rest
TellsLast _ _ = Unit {0}

-- so it is for each line
abbrev pub AlwaysTellsLast : List Line → Type 0
AlwaysTellsLast lines = (n : ℕ) (line : Line) → slice_get lines n ≡ Some line → TellsLast (standing_after None (take n lines)) line
