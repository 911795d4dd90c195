use Rattle.std.proofs.Common.{refl}
use Rattle.shm_parts.specs.Books.{with_books}
use Rattle.shm_site.specs.Site.{site_of}
use Rattle.shm_site.proofs.Steps.{with_room}
use Rattle.shm_site.proofs.site.Site.on_cleared.Goals as goal

pub returns-clause-step : goal.returns-clause-step
returns-clause-step g c =
    let old = c.args.self.now in
    record {
      makes = with_room g.O.Outbox.joined c.reserve.ensures.same (c.on_cleared-outcome.ensures.step old.me (site_of old)) (c.answer_row.ensures (with_books old.me c.on_cleared-outcome.new.self (site_of old)));
      seat = (refl, refl);
    }
