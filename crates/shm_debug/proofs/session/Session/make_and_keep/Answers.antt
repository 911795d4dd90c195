use Rattle.std.proofs.Common.{List, [], ◌∷◌, subst, sym}
use Rattle.shm_model.specs.Opening.{opening_of}
use Rattle.shm_model.specs.World as model
use Rattle.shm_model.specs.declared.event.Event.{Event}
use Rattle.shm_world.specs.Undo.{LeadsBack}
use Rattle.shm_world.proofs.Runs.{run-then}
use Rattle.shm_debug.specs.Standing.{standing, world_of}
use Rattle.shm_debug.specs.Undos.{AllLeadBack}
use Rattle.shm_debug.proofs.Going.{joined}
use Rattle.shm_debug.proofs.session.Session.make_and_keep.Goals as goal

pub invariant_of-self-in-Ok : goal.invariant_of-self-in-Ok
invariant_of-self-in-Ok g c =
    let o = opening_of c.self.inside.opening in
    let old = c.self.inside.events.items in
    let event = c.args.event.now in
    let s = standing o old in
    let both = joined c.step_and_push.result c.step_and_push.new.world c.self.inside.checkpoints o old c.step_and_push.new.events.items event
    (c.step_and_push.ensures.led o old c.self.invariant.0) c.step_and_push.ensures.joined
    (c.step_and_push.ensures.refused (model.run o old).world c.self.invariant.0) c.step_and_push.ensures.same c.self.invariant.1 in
    let back = subst (λ (w : model.World). LeadsBack c.in-Ok.undo w (world_of s)) (sym (run-then o old (event ∷ []))) (c.in-Ok.ensures.back (world_of s) c.self.invariant.0) in (
      both.0,
      both.1,
      subst (λ (events : List Event). AllLeadBack {A = g.row.A.Denot} (standing o events) c.keep.new.self) (sym c.in_ok-answer.ensures.joined) (c.keep.ensures s event c.self.invariant.2 back),
      c.self.invariant.3,
    )

pub invariant_of-self-in-Err : goal.invariant_of-self-in-Err
invariant_of-self-in-Err g c =
    let o = opening_of c.self.inside.opening in
    let old = c.self.inside.events.items in
    let both = joined c.step_and_push.result c.step_and_push.new.world c.self.inside.checkpoints o old c.step_and_push.new.events.items c.args.event.now
    (c.step_and_push.ensures.led o old c.self.invariant.0) c.step_and_push.ensures.joined
    (c.step_and_push.ensures.refused (model.run o old).world c.self.invariant.0) c.step_and_push.ensures.same c.self.invariant.1 in
    (both.0, both.1, c.miss.ensures (standing o c.step_and_push.new.events.items), c.self.invariant.3)
