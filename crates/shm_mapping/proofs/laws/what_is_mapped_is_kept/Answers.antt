use Rattle.shm_mapping.proofs.Hold.{all-hold}
use Rattle.shm_mapping.proofs.laws.what_is_mapped_is_kept.Goals as goal

pub returns : goal.returns
returns c = λ o events is. all-hold o is events
