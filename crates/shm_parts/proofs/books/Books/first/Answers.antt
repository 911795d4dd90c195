use Rattle.std.proofs.Common.{◌∙◌, cond, is_some, ap, Some, sym}
use Rattle.std.specs.Map.{lookup}
use Rattle.shm_manager.specs.Book.{book_of}
use Rattle.shm_place.specs.Page.{same_page}
use Rattle.shm_parts.specs.Books.{booked_of}
use Rattle.shm_parts.specs.Bookings.{listed_of}
use Rattle.shm_parts.proofs.BookSteps.{absent_step, first_due, first_starts, room_for_all, where_refused}
use Rattle.shm_parts.proofs.BookedLemmas.{any_booked, booked_same}
use Rattle.shm_parts.proofs.books.Books.first.Goals as goal

pub ask_in-outcome-requires-clause-due : goal.ask_in-outcome-requires-clause-due
ask_in-outcome-requires-clause-due g c =
    first_due c.args.me c.args.from c.args.request c.args.kind c.of_first-due.result (book_of c.in_ok-book.book) (c.of_first-due.ensures c.args.me c.args.from c.args.kind) c.in_ok-book.ensures

pub invariant_of-self-in-Break-branch-4 : goal.invariant_of-self-in-Break-branch-4
invariant_of-self-in-Break-branch-4 g c =
    let old = c.args.self.now in
    record { booked = booked_same old.map.entries c.reserve-2.new.self.entries old.bookings c.add.new.self c.reserve-2.ensures.entries c.in_err-add.ensures.refused.1 c.add.ensures.others old.booked }

pub returns-clause-step : goal.returns-clause-step
returns-clause-step g c = λ site.
    let old = c.args.self.now in
    let page = c.args.page in
    let next = c.ask_in-outcome.new.book in
    absent_step c.args.me page c.args.from c.args.request c.args.kind c.ask_in-outcome.result old.map.entries c.put.new.map.entries (booked_of old) (listed_of c.add.new.self)
    c.in_ok-book.book next site (first_starts c.args.me c.args.from c.args.request c.args.kind c.of_first-due.result (c.of_first-due.ensures c.args.me c.args.from c.args.kind) (sym c.starts.ensures ∙ c.if-not-starts.false)) c.requires.absent c.in_ok-book.ensures c.ask_in-outcome.ensures.row c.ask_in-outcome.ensures.settled
    (λ q. c.put.ensures.values q ∙ ap (λ es. cond (same_page page q) (Some next) (lookup (same_page q) es)) c.in_ok-reserve-2.ensures.entries)
    c.in_ok-add.ensures.listed (any_booked old.map.entries old.bookings page old.booked ∙ ap is_some c.requires.absent)

pub returns-in_err-reserve-clause-fresh : goal.returns-in_err-reserve-clause-fresh
returns-in_err-reserve-clause-fresh g c = where_refused c.from_residual.result (first_starts c.args.me c.args.from c.args.request c.args.kind c.of_first-due.result (c.of_first-due.ensures c.args.me c.args.from c.args.kind) (sym c.starts.ensures ∙ c.if-not-starts.false))

pub returns-in_err-reserve-2-clause-fresh : goal.returns-in_err-reserve-2-clause-fresh
returns-in_err-reserve-2-clause-fresh g c = where_refused c.from_residual-in_err-reserve-2.result (first_starts c.args.me c.args.from c.args.request c.args.kind c.of_first-due.result (c.of_first-due.ensures c.args.me c.args.from c.args.kind) (sym c.starts.ensures ∙ c.if-not-starts.false))

pub returns-in_err-book-clause-fresh : goal.returns-in_err-book-clause-fresh
returns-in_err-book-clause-fresh g c = where_refused c.from_residual-in_err-book.result (first_starts c.args.me c.args.from c.args.request c.args.kind c.of_first-due.result (c.of_first-due.ensures c.args.me c.args.from c.args.kind) (sym c.starts.ensures ∙ c.if-not-starts.false))

pub returns-in_err-add-clause-fresh : goal.returns-in_err-add-clause-fresh
returns-in_err-add-clause-fresh g c = where_refused c.from_residual-in_err-add.result (first_starts c.args.me c.args.from c.args.request c.args.kind c.of_first-due.result (c.of_first-due.ensures c.args.me c.args.from c.args.kind) (sym c.starts.ensures ∙ c.if-not-starts.false))

pub returns-clause-room : goal.returns-clause-room
returns-clause-room g c = room_for_all c.ask_in-outcome.result (g.O.Outbox.room c.reserve.new.self) c.in_ok-reserve.ensures.room
