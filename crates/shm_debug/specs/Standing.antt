-- What a debugger's session stands for: how its world began, and the events that weren't taken back.
use Rattle.std.specs.Prelude.{ℕ, ◌-◌, List, [], ◌∷◌, ◌++◌, length, take}
use Rattle.shm_model.specs.declared.event.Event.{Event}
use Rattle.shm_model.specs.World.{Opening, World, run}

-- the oldest event first
pub record Standing : Type 0 where
  pub opening : Opening
  pub events : List Event

abbrev pub standing : Opening → List Event → Standing
standing opening events = record { opening = opening; events = events }

-- the world that they lead to
abbrev pub world_of : Standing → World
world_of s = (run s.opening s.events).world

abbrev pub with_event : Standing → Event → Standing
with_event s e = standing s.opening (s.events ++ e ∷ [])

-- the first n events alone
abbrev pub first_events : ℕ → Standing → Standing
first_events n s = standing s.opening (take n s.events)

-- all events but the last n
abbrev pub without_last : Standing → ℕ → Standing
without_last s n = first_events (length s.events - n) s
