use Rattle.shm_laws.proofs.Parts.{readers-known}
use Rattle.shm_laws.proofs.transactions.readers_are_known.Goals as goal

pub returns : goal.returns
returns c = λ o events is. readers-known o events is
