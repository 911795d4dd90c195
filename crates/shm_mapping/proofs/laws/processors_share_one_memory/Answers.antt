use Rattle.shm_mapping.proofs.Hold.{programs-coherent, programs-legal}
use Rattle.shm_mapping.proofs.laws.processors_share_one_memory.Goals as goal

pub returns-clause-legal : goal.returns-clause-legal
returns-clause-legal c = λ o events is. programs-legal o is events

pub returns-clause-coherent : goal.returns-clause-coherent
returns-clause-coherent c = λ o events is. programs-coherent o is events
