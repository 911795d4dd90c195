use Rattle.shm_progress.specs.OnTheWay.{world_since}
use Rattle.shm_progress.proofs.Transfer.GoOn.{ended-at-rest, transactions-go-on}
use Rattle.shm_progress.proofs.transaction_laws.transactions_end.Goals as goal

pub returns : goal.returns
returns c = λ o earlier later manager x page opening kept unrestarted free rest found.
    ended-at-rest (world_since o earlier manager later) manager x page (transactions-go-on o opening manager earlier later kept unrestarted free) rest found
