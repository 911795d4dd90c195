use Rattle.shm_journal.proofs.Lives.{finds_whole, finds_whole_from}
use Rattle.shm_journal.proofs.laws.a_journal_that_was_served_is_found_sound.Goals as goal

pub returns : goal.returns
returns c = record { anew = finds_whole; from = finds_whole_from }
