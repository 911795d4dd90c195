use Rattle.shm_progress.proofs.RoundExists.{has-round}
use Rattle.shm_progress.proofs.round_laws.rounds_exist.Goals as goal

pub returns : goal.returns
returns c = λ o events. has-round o events
