use Rattle.shm_parts.proofs.BookSteps.{forgotten_books}
use Rattle.shm_parts.proofs.BookedLemmas.{booked_forgotten}
use Rattle.shm_parts.proofs.books.Books.forget_volatile.Goals as goal

pub invariant_of-self : goal.invariant_of-self
invariant_of-self g c =
    let old = c.args.self.now in
    record { booked = booked_forgotten old.map.entries c.forget_all.new.books.entries old.bookings c.forget_all.ensures old.booked }

pub returns-clause-books : goal.returns-clause-books
returns-clause-books g c = λ me. forgotten_books me c.args.self.now.map.entries c.forget_all.new.books.entries c.forget_all.ensures
