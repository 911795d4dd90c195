use Rattle.std.proofs.Common.{◌≡◌, ◌∙◌, ◌∷◌, ◌+◌, ap, arith, drop, refl, string_bytes, sym}
use Rattle.std.proofs.Math.ListN.{drop_of_length-le}
use Rattle.std.proofs.lemmas.List.{drop_more}
use Rattle.shm_model.specs.declared.event.Event.{Event}
use Rattle.shm_draw.specs.Drawing.{sheet}
use Rattle.shm_draw.specs.Picture.{first_scene}
use Rattle.shm_draw.proofs.Going.{going_none, going_more, going_all}
use Rattle.shm_draw.proofs.svg_of_page.tell_events.Goals as goal

pub events-init : goal.events-init
events-init g c = λ w stands.
    going_none c.args.page.now (first_scene w) c.args.events.now (sheet (string_bytes c.args.shapes.now) (string_bytes c.args.labels.now))
    c.args.world.now c.args.origins.now.items stands c.requires refl

pub events-preserved : goal.events-preserved
events-preserved g c = λ w stands.
    let events = c.args.events.now in
    let event : Event = c.index-events-index.result in
    let dropped : drop c.events.index events ≡ event ∷ drop (c.events.index + 1) events =
    drop_more events c.events.index event (omega (arith, c.events-test.true)) ∙ ap (λ x. x ∷ drop (c.events.index + 1) events) (sym c.index-events-index.is) in
    going_more c.args.page.now (first_scene w) c.args.events.now (sheet (string_bytes c.args.shapes.now) (string_bytes c.args.labels.now))
    (sheet (string_bytes c.events.shapes) (string_bytes c.events.labels)) (sheet (string_bytes c.tell_event.new.shapes) (string_bytes c.tell_event.new.labels))
    c.events.world c.tell_event.new.world c.events.index c.events.origins.items c.tell_event.new.origins.items event
    (c.events.invariant w stands) dropped c.in_ok-tell_event.ensures

pub returns : goal.returns
returns g c = λ w stands.
    going_all c.args.page.now (first_scene w) c.args.events.now (sheet (string_bytes c.args.shapes.now) (string_bytes c.args.labels.now))
    (sheet (string_bytes c.events.shapes) (string_bytes c.events.labels)) c.events.world c.events.index c.events.origins.items
    (drop_of_length-le c.args.events.now (omega (arith, c.events-test.false))) (c.events.invariant w stands)
