use Rattle.std.proofs.Common.{◌∙◌, ℕ, not, ap, sym}
use Rattle.std.specs.Map.{lookup}
use Rattle.shm_model.specs.Book as model
use Rattle.shm_place.specs.Page.{same_page}
use Rattle.shm_parts.specs.Booked.{book_or}
use Rattle.shm_parts.proofs.BookedLemmas.{any_booked}
use Rattle.shm_parts.proofs.PlaceLemmas.{no_place}
use Rattle.shm_parts.proofs.books.Books.restore.Goals as goal

pub returns-then-contains_key-clause-joins : goal.returns-then-contains_key-clause-joins
returns-then-contains_key-clause-joins g c =
    let old = c.args.self.now in
    sym (ap not (any_booked old.map.entries old.bookings c.args.page old.booked ∙ sym c.contains_key.ensures ∙ c.if-contains_key.true))

pub join-requires-clause-absent : goal.join-requires-clause-absent
join-requires-clause-absent g c = no_place (lookup (same_page c.args.page) c.args.self.now.map.entries) (sym c.contains_key.ensures ∙ c.if-contains_key.false)

pub returns-in-Ok-clause-joins : goal.returns-in-Ok-clause-joins
returns-in-Ok-clause-joins g c =
    let old = c.args.self.now in
    sym (ap not (any_booked old.map.entries old.bookings c.args.page old.booked ∙ sym c.contains_key.ensures ∙ c.if-contains_key.false))

pub returns-in-Err-clause-refused : goal.returns-in-Err-clause-refused
returns-in-Err-clause-refused g c =
    ((λ (me : ℕ). ap (λ es. λ page. book_or (model.untouched_book me) (lookup (same_page page) es)) c.in-Err.ensures.refused.0), c.in-Err.ensures.refused.1)
