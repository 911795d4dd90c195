use Rattle.std.proofs.Common.{List, [], ap, refl, sym}
use Rattle.shm_model.specs.declared.answer.Answer.TheVariants.{Took}
use Rattle.shm_model.specs.Message.{Envelope}
use Rattle.shm_site.specs.Site.{stepped}
use Rattle.shm_site.proofs.site.Site.tick.Goals as goal

pub returns-clause-step : goal.returns-clause-step
returns-clause-step g c = record {
  makes = record {
    sent = c.in_ok-again.again.items;
    behind = g.O.Outbox.joined c.args.outbox.now c.reserve.new.self c.post_all.new.outbox [] c.in_ok-again.again.items c.reserve.ensures.same c.post_all.ensures;
    made = ap (λ (sent : List Envelope). stepped c.args.self.now Took sent) (sym c.in_ok-again.ensures);
  };
  seat = (refl, refl);
}
