use Rattle.shm_parts.proofs.RisingLemmas.{sorted_none}
use Rattle.shm_parts.proofs.pages_by_place.RisingPlaces.new.Goals as goal

pub invariant_of-result : goal.invariant_of-result
invariant_of-result g c = sorted_none c.new.result.items c.new.ensures.items
