use Rattle.shm_laws.proofs.calls.each_call_is_executed_once.Goals as goal
use Rattle.shm_laws.proofs.Call.Once.{executed-once}

pub returns : goal.returns
returns c = λ o events opening. executed-once o events
