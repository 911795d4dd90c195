use Rattle.shm_progress.proofs.Round.{settles}
use Rattle.shm_progress.proofs.round_laws.rounds_settle_calls_and_purges.Goals as goal

pub returns : goal.returns
returns c = λ o earlier later opening kept ticks free rest. settles o opening earlier later kept ticks free rest
