use Rattle.shm_progress.proofs.Request.Faults.{faults-served}
use Rattle.shm_progress.proofs.round_laws.faults_are_served.Goals as goal

pub returns : goal.returns
returns c = λ o earlier first second opening kept unrestarted ticks rest kept_on unrestarted_on none ticks_on free rest_on.
    faults-served o opening earlier first second kept unrestarted ticks rest kept_on unrestarted_on none ticks_on free rest_on
