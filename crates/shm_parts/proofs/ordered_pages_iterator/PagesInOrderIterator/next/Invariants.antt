use Rattle.std.proofs.Common.{◌≡◌, length}
use Rattle.std.specs.Slice.Iter.{iter_rest}
use Rattle.shm_parts.specs.OrderedPages.{standing}
use Rattle.shm_parts.proofs.ordered_pages_iterator.PagesInOrderIterator.next.Given as goal

-- only empty places were passed over
abbrev pub invariant-places : goal.invariant-places
invariant-places g l = standing (iter_rest l.self-inside.rest) ≡ l.fn.self

abbrev pub decreases-places : goal.decreases-places
decreases-places g l = length (iter_rest l.self-inside.rest)
