use Rattle.shm_progress.proofs.Request.Again.{second-settles}
use Rattle.shm_progress.proofs.round_laws.second_rounds_settle_requests.Goals as goal

pub returns : goal.returns
returns c = λ o earlier first second opening kept unrestarted ticks rest kept_on unrestarted_on none ticks_on free rest_on.
    second-settles o opening earlier first second kept unrestarted ticks rest kept_on unrestarted_on none ticks_on free rest_on
