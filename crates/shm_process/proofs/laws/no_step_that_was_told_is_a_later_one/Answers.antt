use Rattle.shm_process.proofs.ToldClocks.{told_never_later}
use Rattle.shm_process.proofs.laws.no_step_that_was_told_is_a_later_one.Goals as goal

pub returns : goal.returns
returns c = told_never_later
