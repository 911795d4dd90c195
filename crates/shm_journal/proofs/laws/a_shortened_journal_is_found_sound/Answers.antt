use Rattle.shm_journal.proofs.Shortening.{begins, found_sound}
use Rattle.shm_journal.proofs.laws.a_shortened_journal_is_found_sound.Goals as goal

pub returns : goal.returns
returns c = record { found = found_sound; begins = begins }
