use Rattle.shm_journal.proofs.StretchLives.{again_idle, begun_idle, stays_idle}
use Rattle.shm_journal.proofs.laws.a_desk_is_idle_behind_each_read.Goals as goal

pub returns : goal.returns
returns c = record { begun = begun_idle; read = stays_idle; again = again_idle }
