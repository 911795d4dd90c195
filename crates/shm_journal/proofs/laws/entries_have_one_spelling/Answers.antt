use Rattle.shm_journal.proofs.EntryWords.{entry-is_read, entry-is_spelled}
use Rattle.shm_journal.proofs.laws.entries_have_one_spelling.Goals as goal

pub returns : goal.returns
returns c = record { read = entry-is_spelled; spelled = entry-is_read }
