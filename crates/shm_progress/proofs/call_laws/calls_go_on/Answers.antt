use Rattle.shm_progress.proofs.Serve.GoOn.{calls-go-on}
use Rattle.shm_progress.proofs.call_laws.calls_go_on.Goals as goal

pub returns : goal.returns
returns c = λ o earlier later site opening kept free. calls-go-on o opening site earlier later kept free
