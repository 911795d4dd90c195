use Rattle.std.proofs.Common.{refl, arith}
use Rattle.shm_attach.specs.Home.{may_destroy, with_home}
use Rattle.shm_site.specs.Site.{site_of}
use Rattle.shm_site.proofs.CallSteps.{most_told, served}
use Rattle.shm_site.proofs.Steps.{with_room}
use Rattle.shm_site.proofs.site.Site.on_call.Goals as goal

pub returns-clause-step : goal.returns-clause-step
returns-clause-step g c =
    let site = c.args.self.now in
    let old = site_of site in
    let step = rw (site.all_sites, site.own_home) at (c.in_ok-served.ensures.step old) in
    record {
      makes = with_room g.O.Outbox.joined c.in_ok-reserve.ensures.same step (served (with_home c.serve.new.self old) c.tell.ensures.answer (rw c.count.ensures.value at c.tell.ensures.sent));
      seat = (refl, refl);
    }

pub tell-requires : goal.tell-requires
tell-requires g c =
    let most = most_told (may_destroy c.args.op) c.count.result c.args.self.now.me c.args.from c.args.number c.in_ok-served.served c.count.ensures.to c.in_ok-served.ensures.spared in
    record { room = omega (arith, most, c.most_sent.ensures, c.in_ok-reserve.ensures.room) }
