use Rattle.std.proofs.Common.{take}
use Rattle.shm_parts.proofs.EndLemmas.{NonePast}
use Rattle.shm_parts.proofs.page_map_helpers.end_of.Given as goal

abbrev pub invariant-places : goal.invariant-places
invariant-places g l = NonePast l.id l.end (take l.place l.map.entries)
