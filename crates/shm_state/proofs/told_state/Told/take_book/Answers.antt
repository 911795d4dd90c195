use Rattle.std.proofs.Common.{◌≡◌, ◌∙◌, ◌++◌, [], ◌∷◌, true, false, nat_lt, rules, ap, sym, refl}
use Rattle.std.specs.List.{list_any}
use Rattle.std.specs.Map.{keys_of}
use Rattle.shm_place.specs.Limits.{pages}
use Rattle.shm_place.specs.Page.{same_page}
use Rattle.shm_manager.specs.Book.{book_of}
use Rattle.shm_model.specs.Basics.{at_page}
use Rattle.shm_parts.specs.Books.{booked_of, books_of}
use Rattle.shm_state.proofs.Taken.{chosen_first, chosen_last, fit-once, no_memory, taken, turned, twice}
use Rattle.shm_state.proofs.ToldSteps.{book-told, booked-alike, books-same, says, seen, tells}
use Rattle.shm_state.specs.Part.{Book}
use Rattle.shm_state.specs.PartOf.{book_in}
use Rattle.shm_state.specs.Told.{once}
use Rattle.shm_state.proofs.told_state.Told.take_book.Goals as goal

pub returns-in_default-restore-clause-told : goal.returns-in_default-restore-clause-told
returns-in_default-restore-clause-told g c = λ said h.
    let old = c.args.self.now in
    let same = c.in_default-restore.ensures.refused in
    no_memory (Book c.args.page (book_in c.args.book)) said _ _ refl (tells _ _ (books-same (seen old) said (says old said h) c.restore.new.self (same.0 old.me) same.1))

pub returns-then-not-joins-clause-told : goal.returns-then-not-joins-clause-told
returns-then-not-joins-clause-told g c = λ said h.
    let old = c.args.self.now in
    let page = c.args.page in
    let new = c.restore.new.self in
    let made = book_of c.in-Ok.book in
    let e = c.in-Ok-restore.ensures in
    let no : c.in-Ok-restore.joins ≡ false = search rules in
    let fit : nat_lt page.index pages ≡ true = search rules in
    let listed = list_any (same_page page) (keys_of said.state.books) in
    let again : listed ≡ true =
    ap (list_any (same_page page)) (sym (booked-alike old said h)) ∙ turned (list_any (same_page page) (booked_of old.books)) true (sym e.joins ∙ no) in
    let all = chosen_last c.in-Ok-restore.joins (at_page (books_of old.me old.books) page made) (books_of old.me old.books) (books_of old.me new) (e.books old.me) no in
    let order = chosen_last c.in-Ok-restore.joins (booked_of old.books ++ page ∷ []) (booked_of old.books) (booked_of new) e.booked no in
    twice (Book page (book_in c.args.book)) said _ (nat_lt page.index pages) listed fit again (tells _ _ (books-same (seen old) said (says old said h) new all order))

pub returns-clause-told : goal.returns-clause-told
returns-clause-told g c = λ said h.
    let old = c.args.self.now in
    let page = c.args.page in
    let new = c.restore.new.self in
    let made = book_of c.in-Ok.book in
    let e = c.in-Ok-restore.ensures in
    let yes : c.in-Ok-restore.joins ≡ true = search rules in
    let fit : nat_lt page.index pages ≡ true = search rules in
    let listed = list_any (same_page page) (keys_of said.state.books) in
    let fresh : listed ≡ false =
    ap (list_any (same_page page)) (sym (booked-alike old said h)) ∙ turned (list_any (same_page page) (booked_of old.books)) false (sym e.joins ∙ yes) in
    let all = chosen_first c.in-Ok-restore.joins (at_page (books_of old.me old.books) page made) (books_of old.me old.books) (books_of old.me new) (e.books old.me) yes in
    let order = chosen_first c.in-Ok-restore.joins (booked_of old.books ++ page ∷ []) (booked_of old.books) (booked_of new) e.booked yes in
    taken (Book page (book_in c.args.book)) said _ (once (nat_lt page.index pages) listed) _ (fit-once (nat_lt page.index pages) listed fit fresh)
    (tells _ _ (book-told (seen old) said (says old said h) page (book_in c.args.book) made new c.in-Ok.ensures all order))
