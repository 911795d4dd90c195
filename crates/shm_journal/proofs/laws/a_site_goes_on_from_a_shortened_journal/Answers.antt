use Rattle.shm_journal.proofs.Shortening.{goes_on}
use Rattle.shm_journal.proofs.laws.a_site_goes_on_from_a_shortened_journal.Goals as goal

pub returns : goal.returns
returns c = goes_on
