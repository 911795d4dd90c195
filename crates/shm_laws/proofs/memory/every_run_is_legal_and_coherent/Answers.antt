-- Every run keeps the invariant of the headline.
use Rattle.shm_laws.proofs.Headline.{runs-coherent, runs-legal}
use Rattle.shm_laws.proofs.memory.every_run_is_legal_and_coherent.Goals as goal

pub returns-clause-legal : goal.returns-clause-legal
returns-clause-legal c = λ o events is. runs-legal o events is

pub returns-clause-coherent : goal.returns-clause-coherent
returns-clause-coherent c = λ o events is. runs-coherent o events is
