use Rattle.shm_model.specs.Book as model
use Rattle.shm_parts.proofs.BookSteps.{same_books}
use Rattle.shm_parts.proofs.BookedLemmas.{booked_copied}
use Rattle.shm_parts.proofs.books.Books.copy.Goals as goal

pub invariant_of-result : goal.invariant_of-result
invariant_of-result g c =
    let old = c.args.self.now in
    record { booked = booked_copied old.map.entries c.in_ok-map.map.entries old.bookings c.in_ok-bookings.bookings c.in_ok-map.ensures c.in_ok-bookings.ensures.there c.in_ok-bookings.ensures.marked old.booked }

pub returns-clause-books : goal.returns-clause-books
returns-clause-books g c = λ me. same_books (model.untouched_book me) c.in_ok-map.map.entries c.args.self.now.map.entries c.in_ok-map.ensures
