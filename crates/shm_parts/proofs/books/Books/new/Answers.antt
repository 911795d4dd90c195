use Rattle.std.proofs.Common.{ap}
use Rattle.std.proofs.Math.Path.{fun_ext}
use Rattle.std.specs.Map.{lookup}
use Rattle.shm_place.specs.Page.{same_page}
use Rattle.shm_model.specs.Book as model
use Rattle.shm_parts.specs.Books.{book_or}
use Rattle.shm_parts.proofs.BookedLemmas.{booked_none}
use Rattle.shm_parts.proofs.books.Books.new.Goals as goal

pub invariant_of-result : goal.invariant_of-result
invariant_of-result g c = record { booked = booked_none c.new.result.entries c.new-2.result c.new.ensures.empty c.new-2.ensures.none }

pub returns-clause-books : goal.returns-clause-books
returns-clause-books g c me = fun_ext (λ q. ap (λ es. book_or (model.untouched_book me) (lookup (same_page q) es)) c.new.ensures.empty)
