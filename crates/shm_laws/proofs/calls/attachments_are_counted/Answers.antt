use Rattle.shm_laws.proofs.Call.Counted.{attachments-counted}
use Rattle.shm_laws.proofs.calls.attachments_are_counted.Goals as goal

pub returns : goal.returns
returns c = λ o events opening. attachments-counted o opening events
