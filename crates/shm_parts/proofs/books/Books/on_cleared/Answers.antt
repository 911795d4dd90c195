use Rattle.std.proofs.Common.{◌∙◌, is_some, sym, ap, refl}
use Rattle.shm_model.specs.Book as model
use Rattle.shm_parts.specs.Books.{booked_of}
use Rattle.shm_parts.proofs.BookSteps.{present_step}
use Rattle.shm_parts.proofs.BookedLemmas.{any_booked}
use Rattle.shm_parts.proofs.books.Books.on_cleared.Goals as goal

pub returns-in-Some-clause-step : goal.returns-in-Some-clause-step
returns-in-Some-clause-step g c = λ me site.
    let old = c.args.self.now in
    let written = c.get_mut.follows.holds c.cleared_in.new.book in
    let found = sym c.in-Some.ensures.value in
    present_step me c.args.page (model.on_cleared c.args.from c.args.number) c.cleared_in.result old.map.entries (c.get_mut.follows.lender c.cleared_in.new.book).entries (booked_of old) (booked_of old)
    c.in-Some.book.now c.cleared_in.new.book site found c.cleared_in.ensures.row c.cleared_in.ensures.settled (written.3 (ap is_some found)).0 refl
    (any_booked old.map.entries old.bookings c.args.page old.booked ∙ ap is_some found)
