use Rattle.shm_process.proofs.Clocks.{replayed_within}
use Rattle.shm_process.proofs.laws.no_number_is_above_the_clock.Goals as goal

pub returns-clause-again : goal.returns-clause-again
returns-clause-again c = replayed_within
