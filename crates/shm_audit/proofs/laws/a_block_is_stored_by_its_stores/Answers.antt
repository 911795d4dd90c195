use Rattle.shm_audit.proofs.StoredBlocks.{block_is_stored}
use Rattle.shm_audit.proofs.laws.a_block_is_stored_by_its_stores.Goals as goal

pub returns : goal.returns
returns c = block_is_stored
