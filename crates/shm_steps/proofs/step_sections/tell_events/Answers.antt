use Rattle.std.proofs.Common.{◌≡◌, ◌∙◌, ◌∷◌, ◌+◌, ap, arith, drop, string_bytes, sym}
use Rattle.std.proofs.Math.ListN.{drop_of_length-le}
use Rattle.std.proofs.lemmas.List.{drop_more}
use Rattle.shm_model.specs.declared.event.Event.{Event}
use Rattle.shm_steps.proofs.Stepping.{stepping_all, stepping_more, stepping_none}
use Rattle.shm_steps.proofs.step_sections.tell_events.Goals as goal

pub events-init : goal.events-init
events-init g c = λ w stands. stepping_none c.args.pages.now w c.args.events.now (string_bytes c.args.out.now) c.args.world.now stands

pub events-preserved : goal.events-preserved
events-preserved g c = λ w stands.
    let events = c.args.events.now in
    let event : Event = c.index-events-index.result in
    let dropped : drop c.events.index events ≡ event ∷ drop (c.events.index + 1) events =
    drop_more events c.events.index event (omega (arith, c.events-test.true)) ∙ ap (λ x. x ∷ drop (c.events.index + 1) events) (sym c.index-events-index.is) in
    stepping_more c.args.pages.now w c.args.events.now (string_bytes c.args.out.now) (string_bytes c.events.out) (string_bytes c.tell_step.new.out)
    c.events.world c.tell_step.new.world c.events.index event (c.events.invariant w stands) dropped c.in_ok-tell_step.ensures

pub returns : goal.returns
returns g c = λ w stands.
    stepping_all c.args.pages.now w c.args.events.now (string_bytes c.args.out.now) (string_bytes c.events.out) c.events.world c.events.index
    (drop_of_length-le c.args.events.now (omega (arith, c.events-test.false))) (c.events.invariant w stands)
