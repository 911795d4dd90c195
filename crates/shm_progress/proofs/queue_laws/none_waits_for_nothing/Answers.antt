use Rattle.shm_progress.proofs.Behind.{none-waits}
use Rattle.shm_progress.proofs.queue_laws.none_waits_for_nothing.Goals as goal

pub returns : goal.returns
returns c = λ o events. none-waits o events
