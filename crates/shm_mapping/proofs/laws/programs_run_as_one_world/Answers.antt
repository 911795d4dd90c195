use Rattle.shm_mapping.proofs.Hold.{run-as-one}
use Rattle.shm_mapping.proofs.laws.programs_run_as_one_world.Goals as goal

pub returns : goal.returns
returns c = λ o events is. run-as-one o is events
