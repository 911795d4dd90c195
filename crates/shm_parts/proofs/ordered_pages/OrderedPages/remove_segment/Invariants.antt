use Rattle.std.proofs.Common.{◌≡◌}
use Rattle.shm_parts.proofs.OrderedPagesLemmas.{gone_below}
use Rattle.shm_parts.proofs.ordered_pages.OrderedPages.remove_segment.Given as goal

-- the pages before this index are gone
abbrev pub invariant-indexes : goal.invariant-indexes
invariant-indexes g l = l.self ≡ gone_below l.id l.index l.fn.self
