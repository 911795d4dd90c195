use Rattle.std.proofs.Common.{refl}
use Rattle.shm_batches.proofs.FrontLemmas.{measured-new}
use Rattle.shm_batches.proofs.front.Front.new.Goals as goal

pub returns-clause-begun : goal.returns-clause-begun
returns-clause-begun g c before = measured-new _ before c.new.ensures refl c.new-2.ensures.lines c.new-2.ensures.open
