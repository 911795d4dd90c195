use Rattle.std.proofs.Common.{List, subst, sym}
use Rattle.shm_model.specs.declared.event.Event.{Event}
use Rattle.shm_model.specs.Opening.{opening_of}
use Rattle.shm_world.specs.World.{StandsFor}
use Rattle.shm_debug.specs.Standing.{standing, world_of}
use Rattle.shm_debug.proofs.session.Session.new.Goals as goal

pub invariant_of-result : goal.invariant_of-result
invariant_of-result g c =
    let o = opening_of c.args.opening in (
      subst (λ (xs : List Event). StandsFor {A = g.row.A.Denot} c.in_ok-world.world (world_of (standing o xs))) (sym c.new-3.ensures.items) c.in_ok-world.ensures,
      c.in_ok-checkpoints.ensures (standing o c.new-3.result.items),
      c.in_ok-undos.ensures (standing o c.new-3.result.items),
      c.requires.opening,
    )
