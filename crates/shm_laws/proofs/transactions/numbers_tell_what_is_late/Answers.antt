use Rattle.shm_laws.proofs.Parts.{numbers-tell}
use Rattle.shm_laws.proofs.transactions.numbers_tell_what_is_late.Goals as goal

pub returns : goal.returns
returns c = λ o events is. numbers-tell o events is
