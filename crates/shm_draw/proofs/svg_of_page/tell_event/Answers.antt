use Rattle.std.proofs.Common.{◌∙◌, ap, string_bytes}
use Rattle.shm_model.specs.World as model
use Rattle.shm_draw.specs.Picture
use Rattle.shm_draw.proofs.Going.{event_told}
use Rattle.shm_draw.proofs.svg_of_page.tell_event.Goals as goal

pub returns : goal.returns
returns g c = λ w stands.
    let went = c.in_ok-answer.ensures.next w stands in
    let v = (model.next w c.args.event).world in
    event_told c.tell_mark.result c.args.page.now w c.args.number c.args.origins.now.items c.args.event
    (string_bytes c.args.shapes.now) (string_bytes c.tell_cells.new.out) (string_bytes c.tell_shape.new.out)
    (string_bytes c.args.labels.now) (string_bytes c.tell_line.new.out) (string_bytes c.tell_mark.new.out)
    c.step.new.self c.note_origins.new.origins.items c.mark_of-mark.result c.in_ok-answer.answer c.sent.result
    (c.mark_of-mark.ensures w stands ∙ ap (λ o. Picture.mark c.args.page.now w o c.args.event) c.as_slice.ensures.value)
    went (c.sent.ensures v went.stands) c.in_ok-note_origins.ensures
    (c.in_ok-tell_cells.ensures v went.stands) c.in_ok-tell_shape.ensures c.in_ok-tell_line.ensures c.tell_mark.ensures
