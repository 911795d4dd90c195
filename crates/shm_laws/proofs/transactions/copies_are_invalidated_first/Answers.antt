use Rattle.shm_laws.proofs.Parts.{copies-invalidated}
use Rattle.shm_laws.proofs.transactions.copies_are_invalidated_first.Goals as goal

pub returns : goal.returns
returns c = λ o events is. copies-invalidated o events is
