-- What became of an event, and of the world behind the handle.
use Rattle.std.specs.Prelude.{◌≡◌, true, List, Option, None, Some}
use Rattle.std.specs.declared.alloc.Global.{Global}
use Rattle.shm_model.specs.declared.event.Event.{Event}
use Rattle.shm_model.specs.World as model
use Rattle.shm_world.specs.Led.{Led}
use Rattle.shm_world.specs.World.{may_grow, StandsFor}
use Rattle.shm_world.specs.declared.world.World.{World}
use Rattle.shm_c.specs.declared.numbers.AnswerNumbers.{AnswerNumbers}
use Rattle.shm_c.specs.declared.numbers.ReplyNumbers.{ReplyNumbers}
use Rattle.shm_c.specs.declared.numbers.Outcome.{Outcome}
use Rattle.shm_c.specs.declared.numbers.Outcome.TheVariants.{Made, NoMemory, NoWorld}
use Rattle.shm_c.specs.Held.{Holds}
use Rattle.shm_c.specs.Numbers.{outcome_numbers, outcome_reply}

-- The event was made: the world is the next one, and the answer the definitions'. Or memory was refused, which may be only where the
-- event takes some: then the world is as it was.
abbrev pub Turned : Option (World Global) → model.World → Event → Outcome → Type 0
Turned new w event (Made answer) = Holds new (model.next w event).world × (answer ≡ (model.next w event).done.answer)
Turned new w event NoMemory = Holds new w × (may_grow event (model.next w event).done.answer ≡ true)
Turned new w event NoWorld = ⊥

-- The headline: the event was made after these, of a run from this opening. The promise holds of the run with it, and a byte that was
-- answered was stored last to its place by these.
abbrev pub Headline : Option (World Global) → model.Opening → List Event → Event → Outcome → Type 0
Headline None o before event (Made answer) = ⊥
Headline (Some new) o before event (Made answer) = Led o before event new answer
Headline new o before event _ = Unit {0}

-- a handle that was empty stays so, and any other turned
abbrev pub Became : Option (World Global) → Option (World Global) → Event → Outcome → Type 0
Became None new event outcome = (new ≡ None) × (outcome ≡ NoWorld)
Became (Some old) new event outcome = ((w : model.World) → StandsFor old w → Turned new w event outcome)
    × ((o : model.Opening) (before : List Event) → StandsFor old (model.run o before).world → Headline new o before event outcome)

-- the numbers are those of what became of the event
abbrev pub Played : Option (World Global) → Option (World Global) → Event → AnswerNumbers → Type 0
Played old new event answer = (outcome : Outcome) × Became old new event outcome × (answer ≡ outcome_numbers outcome)

-- and so are the reply's
abbrev pub Handed : Option (World Global) → Option (World Global) → Event → AnswerNumbers → ReplyNumbers → Type 0
Handed old new event answer reply =
    (outcome : Outcome) × Became old new event outcome × (answer ≡ outcome_numbers outcome) × (reply ≡ outcome_reply outcome)
