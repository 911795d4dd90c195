use Rattle.std.proofs.Common.{◌∙◌, Some, cond, ap}
use Rattle.std.specs.Map.{lookup}
use Rattle.shm_model.specs.Book as model
use Rattle.shm_place.specs.Page.{same_page}
use Rattle.shm_parts.proofs.BookSteps.{put_book}
use Rattle.shm_parts.proofs.BookedLemmas.{booked_same}
use Rattle.shm_parts.proofs.books.Books.join.Goals as goal

pub invariant_of-self-in-Break-branch-2 : goal.invariant_of-self-in-Break-branch-2
invariant_of-self-in-Break-branch-2 g c =
    let old = c.args.self.now in
    record { booked = booked_same old.map.entries c.reserve.new.self.entries old.bookings c.add.new.self c.reserve.ensures.entries c.in_err-add.ensures.refused.1 c.add.ensures.others old.booked }

pub returns-clause-books : goal.returns-clause-books
returns-clause-books g c = λ me.
    let old = c.args.self.now in
    let page = c.args.page in
    put_book (model.untouched_book me) old.map.entries c.put.new.map.entries page c.args.book
    (λ q. c.put.ensures.values q ∙ ap (λ es. cond (same_page page q) (Some c.args.book) (lookup (same_page q) es)) c.in_ok-reserve.ensures.entries)
