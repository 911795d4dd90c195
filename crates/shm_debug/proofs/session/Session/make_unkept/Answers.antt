use Rattle.shm_model.specs.Opening.{opening_of}
use Rattle.shm_model.specs.World as model
use Rattle.shm_debug.specs.Standing.{standing}
use Rattle.shm_debug.proofs.Going.{joined}
use Rattle.shm_debug.proofs.session.Session.make_unkept.Goals as goal

pub invariant_of-self : goal.invariant_of-self
invariant_of-self g c =
    let o = opening_of c.self.inside.opening in
    let old = c.self.inside.events.items in
    let both = joined c.step_and_push.result c.step_and_push.new.world c.self.inside.checkpoints o old c.step_and_push.new.events.items c.args.event.now
    (c.step_and_push.ensures.led o old c.self.invariant.0) c.step_and_push.ensures.joined
    (c.step_and_push.ensures.refused (model.run o old).world c.self.invariant.0) c.step_and_push.ensures.same c.self.invariant.1 in
    (both.0, both.1, c.miss.ensures (standing o c.step_and_push.new.events.items), c.self.invariant.3)
