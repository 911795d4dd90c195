use Rattle.shm_laws.proofs.Run.GoesOn.{own-inputs}
use Rattle.shm_laws.proofs.runs.sites_run_on_their_own_inputs.Goals as goal

pub returns : goal.returns
returns c = own-inputs
