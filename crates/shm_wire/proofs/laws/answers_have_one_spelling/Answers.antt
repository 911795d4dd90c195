use Rattle.shm_wire.proofs.AnswerWords.{answer-is_read, answer-is_spelled}
use Rattle.shm_wire.proofs.laws.answers_have_one_spelling.Goals as goal

pub returns-clause-read : goal.returns-clause-read
returns-clause-read c = answer-is_spelled

pub returns-clause-spelled : goal.returns-clause-spelled
returns-clause-spelled c = answer-is_read
