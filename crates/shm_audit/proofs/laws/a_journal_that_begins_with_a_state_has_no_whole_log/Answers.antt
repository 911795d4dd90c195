use Rattle.shm_audit.proofs.StatesFound.{no_whole_log}
use Rattle.shm_audit.proofs.laws.a_journal_that_begins_with_a_state_has_no_whole_log.Goals as goal

pub returns : goal.returns
returns c = no_whole_log
