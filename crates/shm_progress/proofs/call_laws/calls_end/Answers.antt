use Rattle.shm_progress.specs.OnTheWay.{world_since}
use Rattle.shm_progress.proofs.Serve.GoOn.{answered-at-rest, calls-go-on}
use Rattle.shm_progress.proofs.call_laws.calls_end.Goals as goal

pub returns : goal.returns
returns c = λ o earlier later site x opening kept free rest found.
    answered-at-rest (world_since o earlier site later) site x (calls-go-on o opening site earlier later kept free) rest found
