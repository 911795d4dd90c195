-- A chain of the code, as the definitions speak of it.
use Rattle.shm_batches.specs.Chain as spec
use Rattle.shm_batches.specs.declared.chain.Chain.{Chain}

abbrev pub chain_of : Chain → spec.Chain
chain_of chain = record { number = chain.number; digest = chain.digest }
