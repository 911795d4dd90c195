use Rattle.shm_batches.proofs.RunLemmas.{leaves_new_whole, leaves_whole}
use Rattle.shm_batches.proofs.laws.a_crash_leaves_whole_batches.Goals as goal

pub returns : goal.returns
returns c = record { begun = leaves_new_whole; goes_on = leaves_whole }
