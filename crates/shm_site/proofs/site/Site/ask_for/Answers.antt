use Rattle.std.proofs.Common.{refl, arith}
use Rattle.std.proofs.lemmas.Grind.{common_steps}
use Rattle.shm_site.proofs.Steps.{one_sent}
use Rattle.shm_site.proofs.site.Site.ask_for.Goals as goal

pub returns-clause-step : goal.returns-clause-step
returns-clause-step g c = record {
  makes = one_sent c.to_manager.result c.reserve.new.self g.O.Outbox.joined c.reserve.ensures.same c.push.ensures.posted (grind (arith, common_steps));
  seat = (refl, refl);
}
