-- Where events lead a world, and what it answers to them: both are those of one run from an opening, of which the promise holds.
--
-- `before` are the events that led from the opening to the world as it was. The promise is that of openings within their limits.
use Rattle.std.specs.Prelude.{◌≡◌, ℕ, ◌<◌, List, [], ◌∷◌, ◌++◌, length, take}
use Rattle.shm_model.specs.declared.answer.Answer.{Answer}
use Rattle.shm_model.specs.declared.event.Event.{Event}
use Rattle.shm_model.specs.Promise.{EachGivesLast, GivesLast, Promised}
use Rattle.shm_model.specs.World.{IsOpening, Opening, next, run}
use Rattle.shm_world.specs.World.{answers, StandsFor}
use Rattle.shm_world.specs.declared.world.World.{World}

-- One event was made: the world stands where the run of `before` and this event ends, the answer is that run's to its last event, that run
-- is promised, and a byte that was answered is the one stored last to its place by `before`.
pub record Led {A : Type 0} (o : Opening) (before : List Event) (event : Event) (new : World A) (answer : Answer) : Type 0 where
  pub stands : StandsFor new (run o (before ++ event ∷ [])).world
  pub answered : answer ≡ (next (run o before).world event).done.answer
  pub promised : IsOpening o → Promised o (before ++ event ∷ [])
  pub last : IsOpening o → GivesLast o before event answer

-- The same of a list of events, whose answers joined those that were told before; each byte among them is the one stored last to its place
-- by the events before its own.
pub record LedAlong {A : Type 0} (o : Opening) (before events : List Event) (new : World A) (told out : List Answer) : Type 0 where
  pub stands : StandsFor new (run o (before ++ events)).world
  pub answered : out ≡ told ++ answers (run o before).world events
  pub promised : IsOpening o → Promised o (before ++ events)
  pub last : IsOpening o → EachGivesLast o before events (length told) out

-- the same of the first so many of these events, where memory stopped the run at the next one
pub record LedPartway {A : Type 0} (o : Opening) (before events : List Event) (new : World A) (told out : List Answer) : Type 0 where
  pub count : ℕ
  pub within : count < length events
  pub led : LedAlong o before (take count events) new told out
