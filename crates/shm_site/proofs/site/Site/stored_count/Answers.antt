use Rattle.std.proofs.Common.{◌<◌, List, subst, sym}
use Rattle.std.specs.List.{AllByRecursion, IsDistinct}
use Rattle.shm_place.specs.declared.page_id.PageId.{PageId}
use Rattle.shm_place.specs.Limits.{pages}
use Rattle.shm_place.specs.Page.{same_page}
use Rattle.shm_model.specs.Site.{untouched}
use Rattle.shm_parts.proofs.BookListing.{keys-booked}
use Rattle.shm_site.proofs.Stated.{same_state}
use Rattle.shm_site.proofs.site.Site.stored_count.Goals as goal

pub returns-clause-state : goal.returns-clause-state
returns-clause-state g c =
    let site = c.args.self.now in
    let same = sym (keys-booked site.me site.books) in
    record {
      held = c.stored_count.ensures.held;
      within = subst (λ (l : List PageId). AllByRecursion (λ page. page.index < pages) l) same c.count-books.ensures.within;
      apart = subst (λ (l : List PageId). IsDistinct same_page l) same c.count-books.ensures.apart;
    }

pub returns-clause-law : goal.returns-clause-law
returns-clause-law g c =
    let site = c.args.self.now in
    same_state site
    (c.stored_count.ensures.entries (untouched site.sites site.me)) c.stored_count.ensures.purged (c.count-books.ensures.listed site.me) (keys-booked site.me site.books)
