use Rattle.shm_state.proofs.PartWords.{part-is_spelled}
use Rattle.shm_state.proofs.SpelledParts.{part-is_read}
use Rattle.shm_state.proofs.laws.parts_have_one_spelling.Goals as goal

pub returns-clause-read : goal.returns-clause-read
returns-clause-read c = part-is_spelled

pub returns-clause-spelled : goal.returns-clause-spelled
returns-clause-spelled c = part-is_read
