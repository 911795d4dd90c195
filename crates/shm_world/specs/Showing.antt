-- What a world shows of itself.
use Rattle.std.specs.Prelude.{ℕ, Bool, false, Option, Some, None, if◌then◌else◌, not, slice_get}
use Rattle.shm_place.specs.declared.page_id.PageId.{PageId}
use Rattle.shm_place.specs.Page.{in_limits}
use Rattle.shm_model.specs.declared.answer.Access.{Access}
use Rattle.shm_model.specs.declared.answer.Shown.{Shown}
use Rattle.shm_model.specs.Site.{Site}
use Rattle.shm_model.specs.World.{World}
use Rattle.shm_parts.specs.Holdings.{access_of, shown_of}

abbrev pub access_at : Option Site → PageId → Option Access
access_at None page = None
access_at (Some site) page = Some (access_of (site.entries page))

abbrev pub shown_at : Option Site → PageId → Option Shown
shown_at None page = None
shown_at (Some site) page = Some (shown_of (site.purged page.seg) (site.entries page))

-- a page's manager keeps its book until it purges the page's segment
abbrev pub keeps_book : Option Site → PageId → Bool
keeps_book None page = false
keeps_book (Some site) page = not (site.purged page.seg)

-- the access that a site has to a page, if there are such a site and such a page
abbrev pub access : World → ℕ → PageId → Option Access
access w s page = if in_limits w.count page then access_at (slice_get w.sites s) page else None

-- the state in which a site holds a page, and the number that it met there last
abbrev pub shown : World → ℕ → PageId → Option Shown
shown w s page = if in_limits w.count page then shown_at (slice_get w.sites s) page else None
