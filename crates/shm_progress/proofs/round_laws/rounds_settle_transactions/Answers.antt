use Rattle.shm_progress.proofs.Transfer.Ends.{managers-settle}
use Rattle.shm_progress.proofs.round_laws.rounds_settle_transactions.Goals as goal

pub returns : goal.returns
returns c = λ o earlier later opening kept unrestarted ticks free rest. managers-settle o opening earlier later kept unrestarted ticks free rest
