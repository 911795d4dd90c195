use Rattle.shm_journal.proofs.SingleSteps.{finds_steps, is_journal_of_steps}
use Rattle.shm_journal.proofs.laws.a_journal_of_single_steps_is_found_sound.Goals as goal

pub returns : goal.returns
returns c = record { is = is_journal_of_steps; found = finds_steps }
