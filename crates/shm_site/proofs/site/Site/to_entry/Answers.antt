use Rattle.std.proofs.Common.{refl, ◌∙◌}
use Rattle.shm_parts.specs.Message.{entry_note_of}
use Rattle.shm_site.specs.Site.{site_of}
use Rattle.shm_site.proofs.Seats.{same_here, turned_here}
use Rattle.shm_site.proofs.Steps.{turned-held, with_room}
use Rattle.shm_site.proofs.site.Site.to_entry.Goals as goal

pub returns-in-Err-clause-refused : goal.returns-in-Err-clause-refused
returns-in-Err-clause-refused g c =
    let old = c.args.self.now in
    record {
      site = same_here old.sites old.me old.holdings.sites old.holdings.me old.held_sites old.held_me old.holdings c.turn.new.self (site_of old) (c.in-Err.ensures.refused (site_of old));
      behind = c.reserve.ensures.same;
      seat = (refl, refl);
    }

pub returns-clause-step : goal.returns-clause-step
returns-clause-step g c =
    let old = c.args.self.now in
    let turned = turned_here old.sites old.me old.holdings.sites old.holdings.me old.held_sites old.held_me old.holdings c.turn.new.self (site_of old)
    c.args.page.now (entry_note_of c.args.told) c.in-Ok.sent (c.in-Ok.ensures.step (site_of old)) in
    record {
      makes = with_room g.O.Outbox.joined c.reserve.ensures.same (turned ∙ turned-held old.sites old.me c.args.page.now c.in-Ok.sent c.turn.new.self (site_of old)) c.answer_turn.ensures.makes;
      seat = c.answer_turn.ensures.seat;
    }
