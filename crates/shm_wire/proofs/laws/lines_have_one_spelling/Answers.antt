use Rattle.shm_wire.proofs.LineWords.{line-is_read, line-is_spelled}
use Rattle.shm_wire.proofs.laws.lines_have_one_spelling.Goals as goal

pub returns-clause-read : goal.returns-clause-read
returns-clause-read c = line-is_spelled

pub returns-clause-spelled : goal.returns-clause-spelled
returns-clause-spelled c = line-is_read
