use Rattle.std.proofs.Common.{◌≡◌, cond, None}
use Rattle.shm_place.specs.declared.page_id.PageId.{PageId as Page}
use Rattle.shm_parts.specs.Entries.{stored_at}
use Rattle.shm_parts.proofs.GoneLemmas.{gone_below}
use Rattle.shm_parts.proofs.page_entries.Entries.remove_segment.Given as goal

-- the segment's pages below the index are gone, and the others are as they were
abbrev pub invariant-loop-index : goal.invariant-loop-index
invariant-loop-index g l = (page : Page) → stored_at l.self page ≡ cond (gone_below l.id l.index page) None (stored_at l.fn.self page)
