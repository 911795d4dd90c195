use Rattle.shm_mapping.proofs.Hold.{sites-run}
use Rattle.shm_mapping.proofs.laws.sites_run_beside_what_is_mapped.Goals as goal

pub returns : goal.returns
returns c = λ o events is. sites-run o is events
