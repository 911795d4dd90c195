use Rattle.shm_progress.proofs.Request.GoOn.{requests-go-on}
use Rattle.shm_progress.proofs.request_laws.requests_go_on.Goals as goal

pub returns : goal.returns
returns c = λ o earlier later site manager opening kept unrestarted free. requests-go-on o opening manager site earlier later kept unrestarted free
