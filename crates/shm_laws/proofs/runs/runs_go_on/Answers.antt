use Rattle.shm_model.specs.World.{begun}
use Rattle.shm_laws.proofs.Run.GoesOn.{run_on-append}
use Rattle.shm_laws.proofs.runs.runs_go_on.Goals as goal

pub returns : goal.returns
returns c = λ o earlier later. run_on-append (begun o) earlier later
