use Rattle.shm_journal.proofs.StretchLives.{stays_sound}
use Rattle.shm_journal.proofs.laws.a_journal_made_shorter_while_its_site_runs_stays_sound.Goals as goal

pub returns : goal.returns
returns c = stays_sound
