use Rattle.shm_laws.proofs.Call.Once.{homes-keep}
use Rattle.shm_laws.proofs.calls.homes_keep_their_part.Goals as goal

pub returns : goal.returns
returns c = λ o events opening. homes-keep o events
