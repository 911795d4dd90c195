use Rattle.std.proofs.Common.{◌∙◌, ℕ, is_some, refl, sym, ap}
use Rattle.shm_model.specs.Book as model
use Rattle.shm_parts.specs.Booked.{book_or}
use Rattle.shm_parts.specs.Books.{booked_of}
use Rattle.shm_parts.specs.Bookings.{listed_of}
use Rattle.shm_parts.proofs.BookSteps.{present_step, put_back, room_for_all, where_refused}
use Rattle.shm_parts.proofs.BookedLemmas.{any_booked, booked_put, booked_there}
use Rattle.shm_parts.proofs.books.Books.on_ask.Goals as goal

pub returns-then-not-starts-clause-step : goal.returns-then-not-starts-clause-step
returns-then-not-starts-clause-step g c = λ site.
    let old = c.args.self.now in
    let next = c.ask_in.new.book in
    let written = c.get_mut.follows.holds next in
    let found = sym c.in-Some.ensures.value in
    present_step c.args.me c.args.page (model.on_ask c.args.from c.args.request c.args.kind) c.ask_in.result old.map.entries (c.get_mut.follows.lender next).entries (booked_of old) (booked_of old)
    c.in-Some.book.now next site found c.ask_in.ensures.row c.ask_in.ensures.settled (written.3 (ap is_some found)).0 refl
    (any_booked old.map.entries old.bookings c.args.page old.booked ∙ ap is_some found)

pub returns-in_err-reserve-clause-refused : goal.returns-in_err-reserve-clause-refused
returns-in_err-reserve-clause-refused g c =
    let old = c.args.self.now in
    let book = c.in-Some.book.now in
    let written = c.get_mut.follows.holds book in
    let found = sym c.in-Some.ensures.value in
    where_refused c.from_residual.result ((λ (me : ℕ). put_back (model.untouched_book me) old.map.entries (c.get_mut.follows.lender book).entries c.args.page book found (written.3 (ap is_some found)).0), refl)

pub invariant_of-self-in-Break-branch-2 : goal.invariant_of-self-in-Break-branch-2
invariant_of-self-in-Break-branch-2 g c =
    let old = c.args.self.now in
    let page = c.args.page in
    let book = c.in-Some.book.now in
    let written = c.get_mut.follows.holds book in
    let found = sym c.in-Some.ensures.value in
    record {
      booked = booked_put old.map.entries (c.get_mut.follows.lender book).entries old.bookings c.mark.new.self page book book found (written.3 (ap is_some found)).0 c.mark.ensures.there
          (λ q apart h. c.mark.ensures.others q h)
          (λ h. c.mark.ensures.others page (old.booked.running page (ap (λ o. is_some (book_or (model.untouched_book 0) o).running) found ∙ h))) old.booked;
    }

pub returns-in_err-mark-clause-refused : goal.returns-in_err-mark-clause-refused
returns-in_err-mark-clause-refused g c =
    let old = c.args.self.now in
    let book = c.in-Some.book.now in
    let written = c.get_mut.follows.holds book in
    let found = sym c.in-Some.ensures.value in
    where_refused c.from_residual-in_err-mark.result
    ((λ (me : ℕ). put_back (model.untouched_book me) old.map.entries (c.get_mut.follows.lender book).entries c.args.page book found (written.3 (ap is_some found)).0), c.mark.ensures.listed)

pub invariant_of-self-2 : goal.invariant_of-self-2
invariant_of-self-2 g c =
    let old = c.args.self.now in
    let page = c.args.page in
    let next = c.ask_in-2.new.book in
    let written = c.get_mut.follows.holds next in
    let found = sym c.in-Some.ensures.value in
    record {
      booked = booked_put old.map.entries (c.get_mut.follows.lender next).entries old.bookings c.mark.new.self page c.in-Some.book.now next found (written.3 (ap is_some found)).0 c.mark.ensures.there
          (λ q apart h. c.mark.ensures.others q h)
          (λ runs. c.in_ok-mark.ensures.marked (booked_there old.map.entries old.bookings page c.in-Some.book.now found old.booked))
          old.booked;
    }

pub returns-clause-step : goal.returns-clause-step
returns-clause-step g c = λ site.
    let old = c.args.self.now in
    let next = c.ask_in-2.new.book in
    let written = c.get_mut.follows.holds next in
    let found = sym c.in-Some.ensures.value in
    present_step c.args.me c.args.page (model.on_ask c.args.from c.args.request c.args.kind) c.ask_in-2.result old.map.entries (c.get_mut.follows.lender next).entries (booked_of old) (listed_of c.mark.new.self)
    c.in-Some.book.now next site found c.ask_in-2.ensures.row c.ask_in-2.ensures.settled (written.3 (ap is_some found)).0 c.mark.ensures.listed
    (any_booked old.map.entries old.bookings c.args.page old.booked ∙ ap is_some found)

pub returns-clause-room : goal.returns-clause-room
returns-clause-room g c = room_for_all c.ask_in-2.result (g.O.Outbox.room c.reserve.new.self) c.in_ok-reserve.ensures.room
