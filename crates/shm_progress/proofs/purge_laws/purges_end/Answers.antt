use Rattle.shm_progress.specs.OnTheWay.{world_since}
use Rattle.shm_progress.proofs.Purge.GoOn.{purged-at-rest, purges-go-on}
use Rattle.shm_progress.proofs.purge_laws.purges_end.Goals as goal

pub returns : goal.returns
returns c = λ o earlier later home id site x opening kept free rest found.
    purged-at-rest (world_since o earlier home later) home x id site (purges-go-on o opening home earlier later kept free) rest found
