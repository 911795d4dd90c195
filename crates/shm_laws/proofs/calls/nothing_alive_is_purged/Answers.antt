use Rattle.shm_laws.proofs.Call.Purged.{purged-dead}
use Rattle.shm_laws.proofs.calls.nothing_alive_is_purged.Goals as goal

pub returns : goal.returns
returns c = λ o events opening. purged-dead o opening events
