use Rattle.shm_lines.proofs.ReadLines.{read-is_spelled}
use Rattle.shm_lines.proofs.SpelledLemmas.{spelled-is_read}
use Rattle.shm_lines.proofs.laws.lines_have_one_spelling.Goals as goal

pub returns-clause-read : goal.returns-clause-read
returns-clause-read c = read-is_spelled

pub returns-clause-spelled : goal.returns-clause-spelled
returns-clause-spelled c = spelled-is_read
