use Rattle.shm_mapping.proofs.Verdicts.{steps-keep}
use Rattle.shm_mapping.proofs.laws.verdicts_keep_what_is_mapped.Goals as goal

pub returns : goal.returns
returns c = λ sites me site e mapped may. steps-keep sites me site e mapped may
