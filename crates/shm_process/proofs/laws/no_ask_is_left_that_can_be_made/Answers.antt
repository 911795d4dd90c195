use Rattle.shm_process.proofs.Enough.{enough_steps}
use Rattle.shm_process.proofs.laws.no_ask_is_left_that_can_be_made.Goals as goal

pub returns : goal.returns
returns c = enough_steps
