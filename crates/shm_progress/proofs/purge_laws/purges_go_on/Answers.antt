use Rattle.shm_progress.proofs.Purge.GoOn.{purges-go-on}
use Rattle.shm_progress.proofs.purge_laws.purges_go_on.Goals as goal

pub returns : goal.returns
returns c = λ o earlier later home opening kept free. purges-go-on o opening home earlier later kept free
