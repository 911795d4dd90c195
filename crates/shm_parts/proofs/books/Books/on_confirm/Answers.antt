use Rattle.std.proofs.Common.{◌∙◌, ◌&&◌, Bool, ℕ, not, is_some, refl, sym, ap}
use Rattle.shm_model.specs.Book as model
use Rattle.shm_parts.specs.Booked.{book_or}
use Rattle.shm_parts.specs.Books.{booked_of}
use Rattle.shm_parts.specs.declared.book_outcome.Outcome.TheVariants as outcome
use Rattle.shm_place.specs.Page.{same_page}
use Rattle.shm_parts.specs.Bookings.{listed_of}
use Rattle.shm_parts.proofs.BookSteps.{present_step, put_back, room_for_all, where_refused}
use Rattle.shm_parts.proofs.BookedLemmas.{any_booked, booked_put, settled_off}
use Rattle.shm_parts.proofs.books.Books.on_confirm.Goals as goal

pub returns-in_default-ending_in-clause-step : goal.returns-in_default-ending_in-clause-step
returns-in_default-ending_in-clause-step g c = λ me site.
    let old = c.args.self.now in
    let book = c.in-Some.book.now in
    let written = c.get_mut.follows.holds book in
    let found = sym c.in-Some.ensures.value in
    present_step me c.args.page (model.on_confirm c.args.from c.args.number) outcome.Ignored old.map.entries (c.get_mut.follows.lender book).entries (booked_of old) (booked_of old)
    book book site found (sym c.in_default-ending_in.ensures.ignored) refl (written.3 (ap is_some found)).0 refl
    (any_booked old.map.entries old.bookings c.args.page old.booked ∙ ap is_some found)

pub returns-in_err-reserve-clause-refused : goal.returns-in_err-reserve-clause-refused
returns-in_err-reserve-clause-refused g c =
    let old = c.args.self.now in
    let book = c.in-Some.book.now in
    let written = c.get_mut.follows.holds book in
    let found = sym c.in-Some.ensures.value in
    where_refused c.from_residual.result ((λ (me : ℕ). put_back (model.untouched_book me) old.map.entries (c.get_mut.follows.lender book).entries c.args.page book found (written.3 (ap is_some found)).0), refl)

pub invariant_of-self-2 : goal.invariant_of-self-2
invariant_of-self-2 g c =
    let old = c.args.self.now in
    let page = c.args.page in
    let next = c.confirm_in-outcome.new.book in
    let written = c.get_mut.follows.holds next in
    let found = sym c.in-Some.ensures.value in
    record {
      booked = booked_put old.map.entries (c.get_mut.follows.lender next).entries old.bookings c.settle.new.self page c.in-Some.book.now next found (written.3 (ap is_some found)).0 c.settle.ensures.there
          (λ q apart h. c.settle.ensures.others q (ap (λ (b : Bool). b && not c.runs-runs.result) apart) h)
          (λ h. c.settle.ensures.others page (settled_off (same_page page page) c.runs-runs.result _ c.runs-runs.ensures h) (old.booked.running c.args.page (ap (λ o. is_some (book_or (model.untouched_book 0) o).running) found ∙ ap is_some c.in-Some-ending_in.ensures.runs))) old.booked;
    }

pub returns-clause-step : goal.returns-clause-step
returns-clause-step g c = λ me site.
    let old = c.args.self.now in
    let next = c.confirm_in-outcome.new.book in
    let written = c.get_mut.follows.holds next in
    let found = sym c.in-Some.ensures.value in
    present_step me c.args.page (model.on_confirm c.args.from c.args.number) c.confirm_in-outcome.result old.map.entries (c.get_mut.follows.lender next).entries (booked_of old) (listed_of c.settle.new.self)
    c.in-Some.book.now next site found (c.confirm_in-outcome.ensures.row ∙ sym c.in-Some-ending_in.ensures.row) c.confirm_in-outcome.ensures.settled (written.3 (ap is_some found)).0 c.settle.ensures.listed
    (any_booked old.map.entries old.bookings c.args.page old.booked ∙ ap is_some found)

pub returns-clause-room : goal.returns-clause-room
returns-clause-room g c = room_for_all c.confirm_in-outcome.result (g.O.Outbox.room c.reserve.new.self) c.in_ok-reserve.ensures.room
