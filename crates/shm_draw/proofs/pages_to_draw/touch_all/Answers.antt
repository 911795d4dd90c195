use Rattle.std.proofs.Common.{◌≡◌, ◌∙◌, ◌∷◌, ◌+◌, ap, arith, drop, sym}
use Rattle.std.proofs.Math.ListN.{drop_of_length-le}
use Rattle.std.proofs.lemmas.List.{drop_more}
use Rattle.shm_model.specs.declared.event.Event.{Event}
use Rattle.shm_draw.specs.Picture.{with_page}
use Rattle.shm_draw.proofs.Touching.{touching_all, touching_more, touching_none}
use Rattle.shm_draw.proofs.pages_to_draw.touch_all.Goals as goal

pub events-init : goal.events-init
events-init g c = λ w stands. touching_none w c.args.events.now c.args.pages.now.items c.args.world.now stands

pub events-preserved : goal.events-preserved
events-preserved g c = λ w stands.
    let events = c.args.events.now in
    let event : Event = c.event-item.result in
    let dropped : drop c.events.event-index events ≡ event ∷ drop (c.events.event-index + 1) events =
    drop_more events c.events.event-index event (omega (arith, c.events-test.true)) ∙ ap (λ x. x ∷ drop (c.events.event-index + 1) events) (sym c.event-item.is) in
    let had = c.events.invariant w stands in
    touching_more w events c.args.pages.now.items c.events.pages.items c.touch.new.pages.items c.events.world c.step.new.self c.events.event-index event
    had dropped (c.in_ok-touch.ensures ∙ ap (λ p. with_page p c.events.pages.items) (c.about.ensures had.here had.stands)) (c.in_ok-step.ensures.next had.here had.stands).stands

pub returns : goal.returns
returns g c = λ w stands.
    touching_all w c.args.events.now c.args.pages.now.items c.events.pages.items c.events.world c.events.event-index
    (drop_of_length-le c.args.events.now (omega (arith, c.events-test.false))) (c.events.invariant w stands)
