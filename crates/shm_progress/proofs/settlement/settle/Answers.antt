use Rattle.std.proofs.Common.{◌++◌, subst}
use Rattle.shm_model.specs.World as model
use Rattle.shm_progress.specs.Rest.Rounds.{ticks}
use Rattle.shm_progress.proofs.Rest.Rounds.{serves-if, settles-if, ticked-run}
use Rattle.shm_progress.proofs.settlement.settle.Goals as goal
use Rattle.shm_world.specs.World.{StandsFor}

pub returns-clause-enough : goal.returns-clause-enough
returns-clause-enough g c = λ o before stands most.
    c.deliver_all.ensures.enough o (before ++ ticks (model.sites_of o))
    (subst (λ (w : model.World). StandsFor {A = g.row.A.Denot} c.tick_all.new.world w) (ticked-run o before) (c.in_ok-tick_all.ensures.made (model.run o before).world stands)) most

pub returns-clause-settles : goal.returns-clause-settles
returns-clause-settles g c = λ o before opening stands.
    let ticked = c.in_ok-tick_all.ensures.made (model.run o before).world stands in
    settles-if c.deliver_all.new.world o opening before c.deliver_all.result (c.deliver_all.ensures.made _ ticked) (λ u after_all. c.deliver_all.ensures.rest _ u ticked after_all)

pub returns-clause-serves : goal.returns-clause-serves
returns-clause-serves g c = λ o before round opening is stands.
    let ticked = c.in_ok-tick_all.ensures.made (model.run o (before ++ round)).world stands in
    serves-if c.deliver_all.new.world o opening before round is c.deliver_all.result (c.deliver_all.ensures.made _ ticked) (λ u after_all. c.deliver_all.ensures.rest _ u ticked after_all)
