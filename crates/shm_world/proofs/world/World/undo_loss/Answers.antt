use Rattle.std.proofs.Common.{◌≡◌, IfOk, OnErr, Option, refl, subst, sym, true, ◌∙◌}
use Rattle.shm_model.specs.Message.{Envelope}
use Rattle.shm_model.specs.World.{lose, without}
use Rattle.shm_parts.specs.Message.{envelope_of}
use Rattle.shm_world.specs.Undo.{LeadsBack, brings_page}
use Rattle.shm_world.proofs.Undoing.{low-number}
use Rattle.shm_world.proofs.world.World.undo_loss.Goals as goal

pub returns-in_default-clause-back : goal.returns-in_default-clause-back
returns-in_default-clause-back g c = λ w stands.
    subst (λ (m : Option Envelope). LeadsBack c.undo_sending.result (lose m w c.args.number).world w) (c.in_default.ensures ∙ stands.carries.live c.args.number)
    (c.undo_sending.ensures.sends w w stands refl refl (λ k h. refl))

pub returns-clause-back : goal.returns-clause-back
returns-clause-back g c = λ w stands.
    let number = c.args.number in
    let e = envelope_of c.in-Some.envelope.now in
    let live = c.in-Some.ensures ∙ stands.carries.live number in
    let back = c.undo_sending-2.ensures.lost w number stands (low-number w number e (sym live)) in
    subst (λ (m : Option Envelope). IfOk c.also_taking.result (λ undo. LeadsBack undo (lose m w number).world w)) live
    (c.also_taking.ensures.back w (without w number) c.undo_sending-2.ensures.none (sym live) stands.unsent back)

pub returns-clause-memory : goal.returns-clause-memory
returns-clause-memory g c = λ w stands.
    subst (λ (m : Option Envelope). OnErr c.also_taking.result (brings_page m ≡ true)) (c.in-Some.ensures ∙ stands.carries.live c.args.number) c.also_taking.ensures.memory
