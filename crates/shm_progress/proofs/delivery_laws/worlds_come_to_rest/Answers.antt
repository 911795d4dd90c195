use Rattle.shm_progress.proofs.Ending.Rests.{rests}
use Rattle.shm_progress.proofs.delivery_laws.worlds_come_to_rest.Goals as goal

pub returns : goal.returns
returns c = λ o events. rests o events
