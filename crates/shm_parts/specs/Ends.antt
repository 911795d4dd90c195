-- How far a map has pages of a segment.
use Rattle.std.specs.Prelude.{ℕ, ◌==◌, ◌&&◌, Bool, nat_le, nat_lt}
use Rattle.shm_place.specs.declared.page_id.PageId.{PageId}
use Rattle.shm_place.specs.Limits as limit

-- a page of the segment from an index on, as far as segments have pages
abbrev pub is_past : ℕ → ℕ → PageId → Bool
is_past id end page = (id == page.seg) && nat_le end page.index && nat_lt page.index limit.pages
