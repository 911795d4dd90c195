use Rattle.std.proofs.Common.{◌≡◌, ℕ, true, false, Option, refl}
use Rattle.std.proofs.lemmas.Bool.{false≢true}
use Rattle.shm_place.specs.declared.page_id.PageId.{PageId}
use Rattle.shm_manager.specs.Book.{due_of, starts}
use Rattle.shm_model.specs.Book as book
use Rattle.shm_model.specs.Site as model
use Rattle.shm_model.specs.Transfer.{to_book}
use Rattle.shm_parts.specs.Books.{with_books}
use Rattle.shm_site.specs.Site.{site_of}
use Rattle.shm_site.specs.Step.{is_refused}
use Rattle.shm_site.proofs.Steps.{books_back, on_err, with_room}
use Rattle.shm_site.proofs.site.Site.on_ask.Goals as goal

-- an Ask that starts a transaction isn't refused
not_refused : (me : ℕ) (page : PageId) (o : book.Outcome) (running : Option book.Running) (site : model.Site) → starts (due_of o running) ≡ true → is_refused (to_book me page o site).answer ≡ false
not_refused me page book.UsedUp running site h = absurd (false≢true h)
not_refused me page book.Ignored running site h = refl
not_refused me page (book.Taken after orders) running site h = refl

pub returns-in_err-outcome-clause-memory : goal.returns-in_err-outcome-clause-memory
returns-in_err-outcome-clause-memory g c =
    let site = site_of c.args.self.now in
    let b = site.books c.args.page.now in
    on_err c.from_residual.result (not_refused c.args.self.now.me c.args.page.now (book.on_ask c.args.from c.args.request c.args.kind b) b.running site c.in_err-outcome.ensures.starts)

pub returns-in_err-outcome-clause-refused : goal.returns-in_err-outcome-clause-refused
returns-in_err-outcome-clause-refused g c =
    let old = c.args.self.now in
    let same = books_back old.me old.books c.on_ask.new.self (site_of old) c.in_err-outcome.ensures.refused.0 c.in_err-outcome.ensures.refused.1 in
    on_err c.from_residual.result (record { site = same; behind = c.in_err-outcome.ensures.same; seat = (refl, refl) })

pub returns-clause-step : goal.returns-clause-step
returns-clause-step g c =
    let old = c.args.self.now in
    record {
      makes = with_room g.O.Outbox.joined c.in_ok-outcome.ensures.same (c.in_ok-outcome.ensures.step (site_of old)) (c.answer_row.ensures (with_books old.me c.on_ask.new.self (site_of old)));
      seat = (refl, refl);
    }
