use Rattle.shm_laws.proofs.Parts.{bytes-last}
use Rattle.shm_laws.proofs.transactions.bytes_are_the_last_stored.Goals as goal

pub returns : goal.returns
returns c = λ o events is. bytes-last o events is
