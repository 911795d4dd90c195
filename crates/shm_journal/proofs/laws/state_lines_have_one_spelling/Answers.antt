use Rattle.shm_journal.proofs.StateWords.{state-is_read, state-is_spelled, state-no_entry}
use Rattle.shm_journal.proofs.laws.state_lines_have_one_spelling.Goals as goal

pub returns : goal.returns
returns c = record { read = state-is_spelled; spelled = state-is_read; apart = state-no_entry }
