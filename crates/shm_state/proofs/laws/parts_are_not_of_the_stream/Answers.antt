use Rattle.shm_state.proofs.PartWords.{part-no_answer, part-no_line}
use Rattle.shm_state.proofs.laws.parts_are_not_of_the_stream.Goals as goal

pub returns-clause-lines : goal.returns-clause-lines
returns-clause-lines c = part-no_line

pub returns-clause-answers : goal.returns-clause-answers
returns-clause-answers c = part-no_answer
