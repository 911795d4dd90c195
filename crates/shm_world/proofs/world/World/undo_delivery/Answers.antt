use Rattle.std.proofs.Common.{◌≡◌, ◌||◌, IfOk, Option, Some, refl, subst, sym, true, ◌∙◌}
use Rattle.std.proofs.lemmas.Bool.{or_left, or_right}
use Rattle.std.proofs.lemmas.Result.{on_err_weaker}
use Rattle.shm_model.specs.Basics.{at}
use Rattle.shm_model.specs.Message.{Deliver, Envelope}
use Rattle.shm_model.specs.World.{deliver, step_at, without}
use Rattle.shm_parts.specs.Message.{envelope_of}
use Rattle.shm_world.specs.Undo.{LeadsBack, brings_page, has_receiver, has_site}
use Rattle.shm_site.proofs.Steps.{on_err}
use Rattle.shm_world.proofs.Undoing.{unsent-without}
use Rattle.shm_world.proofs.world.World.undo_delivery.Goals as goal

pub returns-in_default-clause-back : goal.returns-in_default-clause-back
returns-in_default-clause-back g c = λ w stands.
    subst (λ (m : Option Envelope). LeadsBack c.undo_sending.result (deliver m w c.args.number).world w) (c.in_default.ensures ∙ stands.carries.live c.args.number)
    (c.undo_sending.ensures.sends w w stands refl refl (λ k h. refl))

pub returns-clause-back : goal.returns-clause-back
returns-clause-back g c = λ w stands.
    let number = c.args.number in
    let e = envelope_of c.in-Some.envelope.now in
    let live = c.in-Some.ensures ∙ stands.carries.live number in
    let back = c.in_ok-undo.ensures.step w (at w.gone number true) (Deliver e) stands (unsent-without w number e (sym live) stands.unsent) in
    subst (λ (m : Option Envelope). IfOk c.also_taking.result (λ undo. LeadsBack undo (deliver m w number).world w)) live
    (c.also_taking.ensures.back w (step_at (without w number) e.to (Deliver e)).world c.in_ok-undo.ensures.none (sym live) stands.unsent back)

pub returns-in_err-undo-clause-memory : goal.returns-in_err-undo-clause-memory
returns-in_err-undo-clause-memory g c = λ w stands.
    let e = envelope_of c.in-Some.envelope.now in
    let live = c.in-Some.ensures ∙ stands.carries.live c.args.number in
    on_err c.from_residual.result
    (subst (λ (m : Option Envelope). (has_receiver w m || brings_page m) ≡ true) live (or_left (has_site w e.to) (brings_page (Some e)) (c.in_err-undo.ensures.memory w stands)))

pub returns-clause-memory : goal.returns-clause-memory
returns-clause-memory g c = λ w stands.
    let e = envelope_of c.in-Some.envelope.now in
    let live = c.in-Some.ensures ∙ stands.carries.live c.args.number in
    on_err_weaker c.also_taking.result
    (λ page. subst (λ (m : Option Envelope). (has_receiver w m || brings_page m) ≡ true) live (or_right (has_site w e.to) (brings_page (Some e)) page)) c.also_taking.ensures.memory
