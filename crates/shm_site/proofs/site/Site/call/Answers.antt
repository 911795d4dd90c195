use Rattle.std.proofs.Common.{◌∙◌, refl, sym}
use Rattle.shm_site.specs.Site.{site_of}
use Rattle.shm_site.proofs.CallSteps.{call_made}
use Rattle.shm_site.proofs.Steps.{one_sent}
use Rattle.shm_site.proofs.site.Site.call.Goals as goal

pub returns-in-Ok-clause-step : goal.returns-in-Ok-clause-step
returns-in-Ok-clause-step g c =
    let site = c.args.self.now in
    record {
      makes = one_sent _ c.make_room_for_a_call.new.outbox g.O.Outbox.joined c.make_room_for_a_call.ensures.same c.push.ensures.posted
          (call_made site.sites site.me c.in-Ok.number c.op_home.result c.args.op site.calls c.begin.new.self (site_of site) c.requires (sym c.in-Ok.is ∙ c.begin.ensures.number) c.in-Ok.ensures.begun c.op_home.ensures);
      seat = (refl, refl);
    }
