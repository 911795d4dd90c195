-- What a site tells of its steps, by its log, and by what its process said of them.
use Rattle.std.specs.Prelude.{ℕ, List, [], ◌∷◌, Option, Some, None, map}
use Rattle.shm_model.specs.declared.answer.Answer.{Answer}
use Rattle.shm_model.specs.Log.{Logged}
use Rattle.shm_model.specs.Message.{Envelope}
use Rattle.shm_process.specs.Node.{Node, Said}
use Rattle.shm_process.specs.Recorded.{Event, after_event, said_at}
use Rattle.shm_logs.specs.Boxes.Box.{Box}

-- of one step: its stamp, its answer, and the envelopes that it sent
pub record ToldStep : Type 0 where
  pub stamp : ℕ
  pub answer : Answer
  pub sent : List Envelope

abbrev pub told_by_step : Logged → ToldStep
told_by_step step = record { stamp = step.stamp; answer = step.answer; sent = step.sent }

abbrev pub told_by_log : Box → List ToldStep
told_by_log box = map told_by_step box.log

abbrev pub told_by_said : Said → ToldStep
told_by_said said = record { stamp = said.clock; answer = said.answer; sent = said.sent }

abbrev pub said_first : Option Said → List Said → List Said
said_first None all = all
said_first (Some said) all = said ∷ all

-- what the node says of the steps that it makes at these events, one after another
abbrev pub all_said : Node → List Event → List Said
all_said node [] = []
all_said node (event ∷ events) = said_first (said_at node event) (all_said (after_event node event) events)

abbrev pub told_at : Node → List Event → List ToldStep
told_at node events = map told_by_said (all_said node events)
