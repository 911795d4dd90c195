use Rattle.std.proofs.Common.{◌≡◌, true, IfOk, OnErr, subst, sym}
use Rattle.shm_model.specs.declared.event.Event.{Event}
use Rattle.shm_model.specs.Message.{Load, Store, Begin, Restart}
use Rattle.shm_model.specs.World.{next}
use Rattle.shm_world.specs.Undo.{LeadsBack, undo_may_grow}
use Rattle.shm_world.proofs.Undoing.{back-tick}
use Rattle.shm_world.proofs.world.World.undo_for.Goals as goal

pub returns-in-Load-clause-back : goal.returns-in-Load-clause-back
returns-in-Load-clause-back g c = λ w stands.
    subst (λ (e : Event). IfOk c.undo_step.result (λ undo. LeadsBack undo (next w e).world w)) (sym c.in-Load.is)
    (c.undo_step.ensures.step w w.gone (Load c.in-Load.at c.in-Load.offset) stands stands.unsent)

pub returns-in-Load-clause-memory : goal.returns-in-Load-clause-memory
returns-in-Load-clause-memory g c = λ w stands.
    subst (λ (e : Event). OnErr c.undo_step.result (undo_may_grow w e ≡ true)) (sym c.in-Load.is) (c.undo_step.ensures.memory w stands)

pub returns-in-Store-clause-back : goal.returns-in-Store-clause-back
returns-in-Store-clause-back g c = λ w stands.
    subst (λ (e : Event). IfOk c.undo_step-in-Store.result (λ undo. LeadsBack undo (next w e).world w)) (sym c.in-Store.is)
    (c.undo_step-in-Store.ensures.step w w.gone (Store c.in-Store.at c.in-Store.offset c.in-Store.byte) stands stands.unsent)

pub returns-in-Store-clause-memory : goal.returns-in-Store-clause-memory
returns-in-Store-clause-memory g c = λ w stands.
    subst (λ (e : Event). OnErr c.undo_step-in-Store.result (undo_may_grow w e ≡ true)) (sym c.in-Store.is) (c.undo_step-in-Store.ensures.memory w stands)

pub returns-in-Begin-clause-back : goal.returns-in-Begin-clause-back
returns-in-Begin-clause-back g c = λ w stands.
    subst (λ (e : Event). IfOk c.undo_step-in-Begin.result (λ undo. LeadsBack undo (next w e).world w)) (sym c.in-Begin.is)
    (c.undo_step-in-Begin.ensures.step w w.gone (Begin c.in-Begin.request) stands stands.unsent)

pub returns-in-Begin-clause-memory : goal.returns-in-Begin-clause-memory
returns-in-Begin-clause-memory g c = λ w stands.
    subst (λ (e : Event). OnErr c.undo_step-in-Begin.result (undo_may_grow w e ≡ true)) (sym c.in-Begin.is) (c.undo_step-in-Begin.ensures.memory w stands)

pub returns-in-Restart-clause-back : goal.returns-in-Restart-clause-back
returns-in-Restart-clause-back g c = λ w stands.
    subst (λ (e : Event). IfOk c.undo_step-in-Restart.result (λ undo. LeadsBack undo (next w e).world w)) (sym c.in-Restart.is)
    (c.undo_step-in-Restart.ensures.step w w.gone (Restart) stands stands.unsent)

pub returns-in-Restart-clause-memory : goal.returns-in-Restart-clause-memory
returns-in-Restart-clause-memory g c = λ w stands.
    subst (λ (e : Event). OnErr c.undo_step-in-Restart.result (undo_may_grow w e ≡ true)) (sym c.in-Restart.is) (c.undo_step-in-Restart.ensures.memory w stands)

pub returns-in-Tick-clause-back : goal.returns-in-Tick-clause-back
returns-in-Tick-clause-back g c = λ w stands.
    subst (λ (e : Event). LeadsBack c.undo_sending.result (next w e).world w) (sym c.in-Tick.is)
    (back-tick c.undo_sending.result w c.in-Tick.site (λ after. c.undo_sending.ensures.sends w after stands))
