use Rattle.shm_batches.proofs.NextLemmas.{file_batches, next_begins, next_goes_on}
use Rattle.shm_batches.proofs.laws.the_next_life_begins_with_whole_batches.Goals as goal

pub returns : goal.returns
returns c = record { batches = file_batches; begun = next_begins; goes_on = next_goes_on }
