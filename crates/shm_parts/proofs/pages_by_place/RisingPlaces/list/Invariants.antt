use Rattle.std.proofs.Common.{◌≡◌, take}
use Rattle.std.specs.Map.{values_of}
use Rattle.shm_parts.proofs.pages_by_place.RisingPlaces.list.Given as goal

abbrev pub invariant-pairs : goal.invariant-pairs
invariant-pairs g l = l.list.items ≡ values_of (take l.pair-index l.pairs)
