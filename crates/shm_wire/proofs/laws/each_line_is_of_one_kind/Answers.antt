use Rattle.shm_wire.proofs.LineWords.{answer-alone, line-alone}
use Rattle.shm_wire.proofs.laws.each_line_is_of_one_kind.Goals as goal

pub returns-clause-lines : goal.returns-clause-lines
returns-clause-lines c = line-alone

pub returns-clause-answers : goal.returns-clause-answers
returns-clause-answers c = answer-alone
