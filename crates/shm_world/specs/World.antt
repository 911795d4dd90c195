-- A world of the code against one of the definitions; and what a list of events makes of a world.
use Rattle.std.specs.Prelude.{◌≡◌, ℕ, ◌+◌, ◌<◌, ◌≤◌, Bool, false, true, not, List, [], ◌∷◌, ◌++◌, Some, length, slice_get, take}
use Rattle.shm_model.specs.declared.answer.Answer.{Answer}
use Rattle.shm_model.specs.declared.event.Event.{Event}
use Rattle.shm_model.specs.declared.event.Event.TheVariants as event
use Rattle.shm_model.specs.Message as input
use Rattle.shm_model.specs.World as model
use Rattle.shm_world.specs.Network.{Carries}
use Rattle.shm_site.specs.Step.{is_fault, is_refused}
use Rattle.shm_world.specs.Members.{members_of}
use Rattle.shm_world.specs.declared.world.World.{World}

-- The code's world stands for the definitions': the same sites, and those of all envelopes ever sent that aren't gone, under their numbers.
pub record StandsFor {A : Type 0} (world : World A) (w : model.World) : Type 0 where
  pub count : w.count ≡ world.members.count
  pub sites : w.sites ≡ members_of world.members
  pub carries : Carries world.network w.sent w.gone
  pub unsent : (k : ℕ) → length w.sent ≤ k → w.gone k ≡ false

-- the world after these events, and their answers
abbrev pub after : model.World → List Event → model.World
after w [] = w
after w (e ∷ es) = after (model.next w e).world es

abbrev pub answers : model.World → List Event → List Answer
answers w [] = []
answers w (e ∷ es) = (model.next w e).done.answer ∷ answers (model.next w e).world es

-- Whether memory may be missing at a site's input that has this answer
abbrev pub input_may_grow : input.Input → Answer → Bool
input_may_grow (input.Load _ _) answer = is_fault answer
input_may_grow (input.Store _ _ _) answer = is_fault answer
input_may_grow input.Restart answer = false
input_may_grow _ answer = not (is_refused answer)

-- Whether memory may be missing at an event that has this answer: never where it is a refusal; for a load or store only where it asks
-- for its page; never for a restart or a loss.
abbrev pub may_grow : Event → Answer → Bool
may_grow (event.Load _ _ _) answer = is_fault answer
may_grow (event.Store _ _ _ _) answer = is_fault answer
may_grow (event.Begin _ _) answer = not (is_refused answer)
may_grow (event.Tick _) answer = not (is_refused answer)
may_grow (event.Restart _) answer = false
may_grow (event.Deliver _) answer = not (is_refused answer)
may_grow (event.Repeat _) answer = not (is_refused answer)
may_grow (event.Lose _) answer = false

-- of these events the first so many were answered, and the world stands after them; the next one was refused
pub record AnsweredSome {A : Type 0} (new : World A) (told out : List Answer) (w : model.World) (events : List Event) : Type 0 where
  pub count : ℕ
  pub within : count < length events
  pub stands : StandsFor new (after w (take count events))
  pub answered : out ≡ told ++ answers w (take count events)

-- the answers that joined are those of the first so many events, and memory may be missing at the next one
pub record StopsAtGrowth (told out : List Answer) (w : model.World) (events : List Event) : Type 0 where
  pub count : ℕ
  pub event : Event
  pub joined : length out ≡ length told + count
  pub next : slice_get events count ≡ Some event
  pub grows : may_grow event (model.next (after w (take count events)) event).done.answer ≡ true
