use Rattle.std.proofs.Common.{[], ◌∷◌, ◌++◌}
use Rattle.shm_model.specs.declared.event.Event.TheVariants.{Tick}
use Rattle.shm_progress.proofs.Request.GoOn.{requests-go-on, taken-at-rest}
use Rattle.shm_progress.proofs.request_laws.requests_end.Goals as goal

pub returns : goal.returns
returns c = λ o earlier later site manager x p opening kept unrestarted free rest found here at.
    taken-at-rest o (earlier ++ (Tick site ∷ [])) later manager site x p (requests-go-on o opening manager site earlier later kept unrestarted free) rest found here at
