-- What matters of an answer.
use Rattle.shm_model.specs.declared.answer.Answer.{Answer}
use Rattle.shm_model.specs.declared.answer.Answer.TheVariants as answer
use Rattle.shm_simulate.specs.declared.reaction.Reaction.{Reaction}
use Rattle.shm_simulate.specs.declared.reaction.Reaction.TheVariants as reaction

abbrev pub reaction_of : Answer → Reaction
reaction_of (answer.Byte byte) = reaction.Byte byte
reaction_of answer.Stored = reaction.Stored
reaction_of answer.Fault = reaction.Fault
reaction_of answer.Waiting = reaction.Waiting
reaction_of answer.Took = reaction.Received
reaction_of answer.Dropped = reaction.Received
reaction_of _ = reaction.Other
