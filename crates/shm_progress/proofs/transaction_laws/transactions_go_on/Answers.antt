use Rattle.shm_progress.proofs.Transfer.GoOn.{transactions-go-on}
use Rattle.shm_progress.proofs.transaction_laws.transactions_go_on.Goals as goal

pub returns : goal.returns
returns c = λ o earlier later manager opening kept unrestarted free. transactions-go-on o opening manager earlier later kept unrestarted free
