use Rattle.std.proofs.Common.{◌≡◌}
use Rattle.shm_parts.specs.Books.{viewed}
use Rattle.shm_parts.proofs.BookSteps.{forgotten}
use Rattle.shm_parts.proofs.forget_or_copy_books.forget_all.Given as goal

abbrev pub invariant-books : goal.invariant-books
invariant-books g l = viewed l.books.entries ≡ forgotten l.place (viewed l.initial.books.entries)
