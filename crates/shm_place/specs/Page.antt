-- Pages: which exist at all, and who manages each (Li and Hudak 1989, §3.2: the fixed distributed manager).
use Rattle.std.specs.Prelude.{ℕ, Bool, ◌+◌, ◌*◌, ◌%◌, ◌==◌, ◌&&◌, nat_lt}
use Rattle.shm_place.specs.declared.page_id.PageId.{PageId}
use Rattle.shm_place.specs.Limits.{pages, segments_of_a_home}

abbrev pub manager_of : ℕ → PageId → ℕ
manager_of sites page = (page.seg + page.index) % sites

-- some home could give the identifier, and some segment have a page of this index
abbrev pub in_limits : ℕ → PageId → Bool
in_limits sites page = nat_lt page.seg (segments_of_a_home * sites) && nat_lt page.index pages

abbrev pub same_page : PageId → PageId → Bool
same_page p q = (p.seg == q.seg) && (p.index == q.index)
