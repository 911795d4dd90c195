-- An access that is made until it is answered: which events are made for it, and what they cost. This repository's own.
--
-- Lists of events have the newest first here, as an account has.
use Rattle.std.specs.Prelude.{◌≡◌, ℕ, ◌+◌, ◌-◌, ◌<◌, Bool, false, true, List, [], ◌∷◌, ◌++◌, reverse, length, Option, Some, None, ◌==◌, if◌then◌else◌, nat_lt}
use Rattle.shm_model.specs.declared.answer.Answer.{Answer}
use Rattle.shm_model.specs.declared.answer.Answer.TheVariants.{Fault, Waiting}
use Rattle.shm_model.specs.declared.asked_access.Asked.{Asked}
use Rattle.shm_model.specs.declared.asked_access.Asked.TheVariants as asked
use Rattle.shm_model.specs.declared.event.Event.{Event}
use Rattle.shm_model.specs.declared.event.Event.TheVariants.{Deliver, Load, Store, Tick}
use Rattle.shm_model.specs.Message.{Envelope}
use Rattle.shm_model.specs.World.{Opening, World, live, next, run}
use Rattle.shm_progress.specs.Deliveries.{IsAtRest}
use Rattle.shm_progress.specs.Rest.Deliveries.{FirstFrom}
use Rattle.shm_world.specs.Led.{Led}
use Rattle.shm_world.specs.World.{StandsFor, after, may_grow}
use Rattle.shm_world.specs.declared.world.World.{World as Running}
use Rattle.shm_stepped.specs.Cost.{counted, kind_of, nothing}
use Rattle.shm_stepped.specs.declared.access_cost.Cost.{Cost}
use Rattle.shm_stepped.specs.declared.outcome.Done.{Done}
use Rattle.shm_stepped.specs.declared.outcome.Unanswered.{Unanswered}
use Rattle.shm_stepped.specs.declared.outcome.Unanswered.TheVariants.{BudgetSpent, OutOfMemory}

-- the event that makes this access at this site
abbrev pub access_event : ℕ → Asked → Event
access_event s (asked.Load at offset) = Load s at offset
access_event s (asked.Store at offset byte) = Store s at offset byte

-- the access has no right yet, and waits for it
abbrev pub waits : Answer → Bool
waits Fault = true
waits Waiting = true
waits _ = false

-- the world after these events
abbrev pub since : World → List Event → World
since w [] = w
since w (e ∷ earlier) = (next (since w earlier) e).world

-- the envelope that an event hands over
abbrev pub handed : World → Event → Option Envelope
handed w (Deliver k) = live w k
handed w _ = None

-- it goes to this site
abbrev pub reaches : ℕ → Option Envelope → Bool
reaches s None = false
reaches s (Some e) = e.to == s

-- the access of site s is made at first, and whenever an envelope was handed to its site
abbrev pub is_due : World → ℕ → List Event → Bool
is_due w s [] = true
is_due w s (e ∷ earlier) = reaches s (handed (since w earlier) e)

-- sites tick in turn, round and round
abbrev pub turn_after : ℕ → Event → ℕ → ℕ
turn_after count (Tick s) turn = if nat_lt s (count - 1) then s + 1 else 0
turn_after count _ turn = turn

abbrev pub turn : ℕ → List Event → ℕ
turn count [] = 0
turn count (e ∷ earlier) = turn_after count e (turn count earlier)

-- what helps an access that waits: the oldest envelope is handed over or, where none is on its way, the site ticks whose turn it is
abbrev pub Helps : World → ℕ → Event → Type 0
Helps w turn (Deliver k) = FirstFrom w 0 k
Helps w turn (Tick s) = IsAtRest w × (s ≡ turn)
Helps w turn _ = ⊥

-- the event that comes next: the access where it is due, else what helps it
abbrev pub Comes : World → Event → Bool → ℕ → Event → Type 0
Comes w access true turn e = e ≡ access
Comes w access false turn e = Helps w turn e

abbrev pub Follows : World → ℕ → Event → List Event → Event → Type 0
Follows w s access earlier e = Comes (since w earlier) access (is_due w s earlier) (turn w.count earlier) e

-- each of these events followed those before it, and each access among them was left waiting
abbrev pub Waited : World → ℕ → Event → List Event → Type 0
Waited w s access [] = Unit {0}
Waited w s access (e ∷ earlier) = Follows w s access earlier e
    × (is_due w s earlier ≡ true → waits (next (since w earlier) e).done.answer ≡ true)
    × Waited w s access earlier

-- what these events cost
abbrev pub cost_of : World → List Event → Cost
cost_of w [] = nothing
cost_of w (e ∷ earlier) = counted (kind_of (since w earlier) e) (cost_of w earlier)

-- After events through which it waited, the access was made and answered. The world stands after all of them, and they are what it cost.
-- Where the world was that of a run, the access leads that run and these events on: the promise holds of it, and a byte is the last stored.
pub record Answered {A : Type 0} (new : Running A) (w : World) (s : ℕ) (access : Event) (done : Done) : Type 0 where
  pub made : List Event
  pub waited : Waited w s access made
  pub due : is_due w s made ≡ true
  pub answered : done.answer ≡ (next (since w made) access).done.answer
  pub ended : waits done.answer ≡ false
  pub cost : done.cost ≡ cost_of w (access ∷ made)
  pub stands : StandsFor new (after w (reverse (access ∷ made)))
  pub leads : (o : Opening) (before : List Event) → (run o before).world ≡ w → Led o (before ++ reverse made) access new done.answer

-- the access still waits after these events, and the world stands after them
pub record StillWaits {A : Type 0} (new : Running A) (w : World) (s : ℕ) (access : Event) (made : List Event) (told : Cost) : Type 0 where
  pub waited : Waited w s access made
  pub cost : told ≡ cost_of w made
  pub stands : StandsFor new (after w (reverse made))

-- the whole budget of events was made; or fewer, and memory may be missing at the next one
abbrev pub Stopped : {A : Type 0} → Running A → World → ℕ → Event → ℕ → Unanswered → Type 0
Stopped new w s access budget (BudgetSpent cost) = (made : List Event) × StillWaits new w s access made cost × (length made ≡ budget)
Stopped new w s access budget (OutOfMemory cost) = (made : List Event) × StillWaits new w s access made cost × (length made < budget)
    × (e : Event) × Follows w s access made e × (may_grow e (next (since w made) e).done.answer ≡ true)
