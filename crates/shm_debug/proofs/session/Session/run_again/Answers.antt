use Rattle.std.proofs.Common.{◌≡◌, ◌≤◌, List, ap, arith, length, subst, sym, take, ◌∙◌}
use Rattle.shm_model.specs.Opening.{opening_of}
use Rattle.shm_model.specs.declared.event.Event.{Event}
use Rattle.shm_world.specs.World.{StandsFor}
use Rattle.shm_debug.specs.Checkpoints.{AllHold}
use Rattle.shm_debug.specs.Standing.{Standing, standing, world_of}
use Rattle.shm_debug.proofs.session.Session.run_again.Goals as goal

pub world_after-requires-clause-checkpoints : goal.world_after-requires-clause-checkpoints
world_after-requires-clause-checkpoints g c =
    let o = opening_of c.self.inside.opening in
    let left = c.args.left in
    let within : left ≤ length c.self.inside.events.items = omega (arith, c.requires, ap (λ (s : Standing). length s.events) c.self.view_is) in
    subst (λ (xs : List Event). AllHold {A = g.row.A.Denot} (standing o (take left xs)) c.drop_past.new.self) (sym c.deref.ensures.value)
    (c.drop_past.ensures (standing o c.self.inside.events.items) within c.self.invariant.1)

pub invariant_of-self-2 : goal.invariant_of-self-2
invariant_of-self-2 g c =
    let o = opening_of c.self.inside.opening in
    let same : c.truncate.new.self.items ≡ take c.args.left c.deref.result.now = c.truncate.ensures.items ∙ ap (λ xs. take c.args.left xs) (sym c.deref.ensures.value) in (
      subst (λ (xs : List Event). StandsFor {A = g.row.A.Denot} c.in_ok-world.world (world_of (standing o xs))) (sym same) c.in_ok-world.ensures.world,
      subst (λ (xs : List Event). AllHold {A = g.row.A.Denot} (standing o xs) c.world_after.new.checkpoints) (sym same) c.in_ok-world.ensures.kept,
      c.clear.ensures (standing o c.truncate.new.self.items),
      c.self.invariant.3,
    )
