use Rattle.shm_journal.proofs.HeaderWords.{header-is_read, header-is_spelled}
use Rattle.shm_journal.proofs.laws.headers_have_one_spelling.Goals as goal

pub returns : goal.returns
returns c = record { read = header-is_spelled; spelled = header-is_read }
