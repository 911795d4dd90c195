use Rattle.std.proofs.Common.{◌≡◌, IfOk, OnErr, Option, refl, subst, true, ◌∙◌}
use Rattle.shm_model.specs.Message.{Deliver, Envelope}
use Rattle.shm_model.specs.World.{hand_over}
use Rattle.shm_parts.specs.Message.{envelope_of}
use Rattle.shm_world.specs.Undo.{LeadsBack, has_receiver}
use Rattle.shm_world.proofs.world.World.undo_repeat.Goals as goal

pub returns-in_default-clause-back : goal.returns-in_default-clause-back
returns-in_default-clause-back g c = λ w stands.
    subst (λ (m : Option Envelope). LeadsBack c.undo_sending.result (hand_over m w).world w) (c.in_default.ensures ∙ stands.carries.live c.args.number)
    (c.undo_sending.ensures.sends w w stands refl refl (λ k h. refl))

pub returns-clause-back : goal.returns-clause-back
returns-clause-back g c = λ w stands.
    subst (λ (m : Option Envelope). IfOk c.undo_step.result (λ undo. LeadsBack undo (hand_over m w).world w)) (c.in-Some.ensures ∙ stands.carries.live c.args.number)
    (c.undo_step.ensures.step w w.gone (Deliver (envelope_of c.in-Some.envelope.now)) stands stands.unsent)

pub returns-clause-memory : goal.returns-clause-memory
returns-clause-memory g c = λ w stands.
    subst (λ (m : Option Envelope). OnErr c.undo_step.result (has_receiver w m ≡ true)) (c.in-Some.ensures ∙ stands.carries.live c.args.number) (c.undo_step.ensures.memory w stands)
