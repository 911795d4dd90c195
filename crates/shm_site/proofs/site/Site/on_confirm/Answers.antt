use Rattle.std.proofs.Common.{refl}
use Rattle.shm_parts.specs.Books.{with_books}
use Rattle.shm_site.specs.Site.{site_of}
use Rattle.shm_site.proofs.Steps.{books_back, on_err, with_room}
use Rattle.shm_site.proofs.site.Site.on_confirm.Goals as goal

pub returns-in_err-outcome-clause-refused : goal.returns-in_err-outcome-clause-refused
returns-in_err-outcome-clause-refused g c =
    let old = c.args.self.now in
    let same = books_back old.me old.books c.on_confirm.new.self (site_of old) c.in_err-outcome.ensures.refused.0 c.in_err-outcome.ensures.refused.1 in
    on_err c.from_residual.result (record { site = same; behind = c.in_err-outcome.ensures.same; seat = (refl, refl) })

pub returns-clause-step : goal.returns-clause-step
returns-clause-step g c =
    let old = c.args.self.now in
    record {
      makes = with_room g.O.Outbox.joined c.in_ok-outcome.ensures.same (c.in_ok-outcome.ensures.step old.me (site_of old)) (c.answer_row.ensures (with_books old.me c.on_confirm.new.self (site_of old)));
      seat = (refl, refl);
    }
