use Rattle.std.proofs.Common.{◌≡◌, ◌-◌, ◌≤◌, List, ap, arith, length, refl, subst, sym, take, ◌∙◌}
use Rattle.shm_model.specs.Opening.{opening_of}
use Rattle.shm_model.specs.declared.event.Event.{Event}
use Rattle.shm_world.specs.World.{StandsFor}
use Rattle.shm_debug.specs.Checkpoints.{AllHold}
use Rattle.shm_debug.specs.Standing.{Standing, standing, world_of}
use Rattle.shm_debug.specs.Undos.{AllLeadBack}
use Rattle.shm_debug.proofs.session.Session.take_back.Goals as goal

pub invariant_of-self-2 : goal.invariant_of-self-2
invariant_of-self-2 g c =
    let o = opening_of c.self.inside.opening in
    let items = c.self.inside.events.items in
    let within : c.args.count ≤ length items = omega (arith, c.requires, ap (λ (s : Standing). length s.events) c.self.view_is) in
    let left = length items - c.args.count in
    let same : c.truncate.new.self.items ≡ take left items = c.truncate.ensures.items ∙ ap (λ n. take n items) (omega (arith, c.len.ensures, within)) in
    let listed : take (length c.as_slice-events.result.now - c.args.count) c.as_slice-events.result.now ≡ take left items = ap (λ xs. take (length xs - c.args.count) xs) c.as_slice-events.ensures.value in
    let back = c.if-not-undo_last.ensures.back refl in (
      subst (λ (xs : List Event). StandsFor {A = g.row.A.Denot} c.undo_last.new.world (world_of (standing o xs))) (listed ∙ sym same) back.0,
      subst (λ (xs : List Event). AllHold {A = g.row.A.Denot} (standing o xs) c.drop_past.new.self) (ap (λ n. take n items) (omega (arith, c.len.ensures, within)) ∙ sym same)
          (c.drop_past.ensures (standing o items) (omega (arith, c.len.ensures, within)) c.self.invariant.1),
      subst (λ (xs : List Event). AllLeadBack {A = g.row.A.Denot} (standing o xs) c.undo_last.new.undos) (listed ∙ sym same) back.1,
      c.self.invariant.3,
    )
