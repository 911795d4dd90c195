use Rattle.shm_kept.proofs.Alone.{mapped-alone}
use Rattle.shm_kept.proofs.laws.a_page_that_is_mapped_to_write_is_mapped_once.Goals as goal

pub returns : goal.returns
returns c = mapped-alone
