use Rattle.std.proofs.Common.{◌<◌}
use Rattle.std.proofs.Math.Path.{fun_ext}
use Rattle.shm_place.specs.declared.page_id.PageId.{PageId}
use Rattle.shm_place.specs.Limits as limit
use Rattle.shm_parts.specs.Places.{in_order}
use Rattle.shm_parts.proofs.BookListing.{kept_filled}
use Rattle.shm_parts.proofs.Distinct.{placed_distinct}
use Rattle.shm_parts.proofs.ListLemmas.{all-values}
use Rattle.shm_parts.proofs.books.Books.count.Goals as goal

pub returns-clause-listed : goal.returns-clause-listed
returns-clause-listed g c = λ me. fun_ext (λ page. kept_filled me c.args.self.now page)

pub returns-clause-apart : goal.returns-clause-apart
returns-clause-apart g c =
    let bookings = c.args.self.now.bookings in
    placed_distinct bookings.places.entries (in_order bookings.places.entries) bookings.placed.rising bookings.placed.own

pub returns-clause-within : goal.returns-clause-within
returns-clause-within g c =
    let bookings = c.args.self.now.bookings in
    all-values (λ (page : PageId). page.index < limit.pages) (in_order bookings.places.entries) bookings.placed.within
