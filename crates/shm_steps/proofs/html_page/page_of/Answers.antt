use Rattle.std.proofs.Common.{◌∙◌, ◌++◌, ap, string_bytes}
use Rattle.shm_model.specs.Opening.{opening_of}
use Rattle.shm_model.specs.World.{opened}
use Rattle.shm_draw.specs.Captions.{besides_of}
use Rattle.shm_steps.proofs.Framed.{page_told}
use Rattle.shm_steps.proofs.html_page.page_of.Goals as goal

pub returns : goal.returns
returns g c =
    let opening = opening_of c.args.opening.now in
    let stands = c.in_ok-world.ensures in
    let drawn = c.in_ok-pages.ensures (opened opening) stands in
    page_told c.args.page opening c.args.events.now (besides_of c.args.captions.now) c.as_slice.result.now c.as_slice-2.result.now
    (string_bytes c.in_ok-picture.picture) (string_bytes c.new-text.result) (string_bytes c.push_str.new.self) (string_bytes c.push_str-2.new.self)
    (string_bytes c.tell_first.new.out) (string_bytes c.tell_events.new.out) (string_bytes c.push_str-3.new.self)
    (c.as_slice.ensures.value ∙ drawn) (c.as_slice-2.ensures.value ∙ drawn) (c.in_ok-picture.ensures (opened opening) stands)
    c.new-text.ensures.bytes c.in_ok-push_str.ensures.bytes
    (c.in_ok-push_str-2.ensures.bytes ∙ ap (λ t. string_bytes c.push_str.new.self ++ t) c.as_str.ensures.value)
    c.in_ok-tell_first.ensures (c.in_ok-tell_events.ensures (opened opening) stands) c.in_ok-push_str-3.ensures.bytes
