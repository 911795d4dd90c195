use Rattle.shm_audit.proofs.ToldBlocks.{block_is_loaded}
use Rattle.shm_audit.proofs.laws.a_block_is_what_its_loads_gave.Goals as goal

pub returns : goal.returns
returns c = block_is_loaded
