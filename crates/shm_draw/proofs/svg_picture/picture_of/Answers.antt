use Rattle.std.proofs.Common.{◌∙◌, ◌+◌, ◌++◌, ap, refl, string_bytes, subst}
use Rattle.shm_draw.specs.Captions.{besides_of}
use Rattle.shm_draw.specs.Drawing.{DrewPages}
use Rattle.shm_draw.specs.Svg
use Rattle.shm_draw.proofs.Going.{picture_told}
use Rattle.shm_draw.proofs.svg_picture.picture_of.Goals as goal

pub returns : goal.returns
returns g c = λ w stands.
    let besides = besides_of c.args.captions.now in
    picture_told c.args.page w c.args.events.now besides c.width_of-right.result c.room_for.result (c.width_of-right.result + c.room_for.result) c.in_ok-bottom.bottom c.as_slice.result.now
    (string_bytes c.new-told.result) (string_bytes c.tell_captions.new.out) (string_bytes c.new-body.result) (string_bytes c.tell_pages.new.out)
    (string_bytes c.new-text.result) (string_bytes c.tell_head.new.out) (string_bytes c.push_str.new.self) (string_bytes c.push_str-2.new.self) (string_bytes c.push_str-3.new.self)
    (c.width_of-right.ensures ∙ ap (λ n. Svg.width_of n c.room_of.result) (c.sites.ensures w stands) ∙ ap (Svg.width_of w.count) c.room_of.ensures)
    c.room_for.ensures.room refl (c.as_slice.ensures.value ∙ c.in_ok-pages.ensures w stands)
    c.new-told.ensures.bytes c.in_ok-tell_captions.ensures c.new-body.ensures.bytes
    (subst (λ t. DrewPages c.as_slice.result.now w c.args.events.now t (string_bytes c.new-body.result) (string_bytes c.tell_pages.new.out) c.in_ok-bottom.bottom)
    c.as_str.ensures.value (c.in_ok-bottom.ensures w stands))
    c.new-text.ensures.bytes c.in_ok-tell_head.ensures c.in_ok-push_str.ensures.bytes
    (c.in_ok-push_str-2.ensures.bytes ∙ ap (λ t. string_bytes c.push_str.new.self ++ t) c.as_str-2.ensures.value) c.in_ok-push_str-3.ensures.bytes
