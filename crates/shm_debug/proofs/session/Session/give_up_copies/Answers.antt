use Rattle.shm_model.specs.Opening.{opening_of}
use Rattle.shm_debug.specs.Standing.{standing}
use Rattle.shm_debug.proofs.session.Session.give_up_copies.Goals as goal

pub invariant_of-self : goal.invariant_of-self
invariant_of-self g c =
    let s = standing (opening_of c.self.inside.opening) c.self.inside.events.items in
    (c.self.invariant.0, c.clear.ensures s, c.clear-2.ensures s, c.self.invariant.3)
