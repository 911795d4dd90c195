use Rattle.shm_kept.proofs.Brought.{gives-up}
use Rattle.shm_kept.proofs.laws.what_is_brought_is_the_sites.Goals as goal

pub returns : goal.returns
returns c = gives-up
