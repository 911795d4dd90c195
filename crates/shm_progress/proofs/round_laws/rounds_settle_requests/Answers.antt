use Rattle.shm_progress.proofs.Request.Ends.{requests-settle}
use Rattle.shm_progress.proofs.round_laws.rounds_settle_requests.Goals as goal

pub returns : goal.returns
returns c = λ o earlier later opening kept unrestarted ticks free rest. requests-settle o opening earlier later kept unrestarted ticks free rest
