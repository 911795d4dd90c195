use Rattle.std.proofs.Common.{◌≡◌, cond, None}
use Rattle.std.specs.Map.{lookup}
use Rattle.shm_place.specs.declared.page_id.PageId.{PageId}
use Rattle.shm_place.specs.Page.{same_page}
use Rattle.shm_parts.specs.Books.{booked_of}
use Rattle.shm_parts.proofs.BookedLemmas.{kept_below}
use Rattle.shm_parts.proofs.GoneLemmas.{gone_below}
use Rattle.shm_parts.proofs.books.Books.remove_segment.Given as goal

-- the segment's pages below the index are gone, and the others are as they were
abbrev pub invariant-pages : goal.invariant-pages
invariant-pages g l = record {
  books : (q : PageId) → lookup (same_page q) l.self.map.entries ≡ cond (gone_below l.id l.index q) None (lookup (same_page q) l.fn.self.map.entries);
  booked : booked_of l.self ≡ kept_below l.id l.index (booked_of l.fn.self);
}
