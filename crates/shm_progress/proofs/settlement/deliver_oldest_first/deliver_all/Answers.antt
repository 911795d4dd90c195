use Rattle.std.proofs.Common.{◌≤◌, arith, map}
use Rattle.shm_model.specs.World as model
use Rattle.shm_model.specs.declared.event.Event.TheVariants.{Deliver}
use Rattle.shm_progress.specs.Deliveries.{deliveries_left}
use Rattle.shm_progress.proofs.Rest.Deliveries.{enough, handing-more, none-found}
use Rattle.shm_progress.proofs.settlement.deliver_oldest_first.deliver_all.Goals as goal
use Rattle.shm_world.specs.World.{after}

pub deliveries-preserved : goal.deliveries-preserved
deliveries-preserved g c = λ w stands.
    let handing = c.deliveries.invariant w stands in
    handing-more c.deliveries.world c.step.new.self w c.deliveries.deliveries c.deliveries.from c.in-Some.number c.in_ok-step.field-0 handing
    (c.in-Some.ensures.found _ handing.stands) (c.in_ok-step.ensures.next _ handing.stands)

pub returns-clause-enough : goal.returns-clause-enough
returns-clause-enough g c = λ o before stands most.
    let handing = c.deliveries.invariant (model.run o before).world stands in
    let u : model.World = after (model.run o before).world (map Deliver handing.envelopes) in
    let few : deliveries_left (model.run o before).world ≤ c.deliveries.deliveries = omega (arith, most, c.deliveries-test.false) in
    none-found u c.deliveries.from c.oldest_from-2.result c.is_none.result c.is_none.ensures (c.oldest_from-2.ensures.found u handing.stands)
    (enough c.deliveries.world o before c.deliveries.deliveries c.deliveries.from handing few u handing.stands)
