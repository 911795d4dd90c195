use Rattle.std.proofs.Common.{◌∙◌, ◌++◌, ap, length, refl, string_bytes}
use Rattle.shm_draw.specs.Picture.{first_scene, last_scene, on_their_way}
use Rattle.shm_draw.proofs.Going.{labels_told, page_told, shapes_told}
use Rattle.shm_draw.proofs.svg_of_page.tell_page.Goals as goal

pub returns : goal.returns
returns g c = λ w stands.
    let page = c.args.page.now in
    let events = c.args.events.now in
    let drew = c.in_ok-tell_events.ensures w stands in
    let last = last_scene (first_scene w) events in
    let ways = c.as_slice-flying.result.now in
    let are = c.as_slice-flying.ensures.value ∙ c.in_ok-ways.ensures last.world drew.stands
    ∙ ap (on_their_way page last.world) (c.as_slice.ensures.value ∙ drew.sent_by) in
    let shapes = shapes_told page w events (length events) ways
    (string_bytes c.new-shapes.result) (string_bytes c.tell_cells.new.out) (string_bytes c.tell_events.new.shapes) (string_bytes c.draw_on_their_way.new.out)
    refl are c.new-shapes.ensures.bytes (c.in_ok-tell_cells.ensures w stands) drew.shapes c.in_ok-draw_on_their_way.ensures in
    let labels = labels_told page w events c.sites-sites.result (length events) ways
    (string_bytes c.new-labels.result) (string_bytes c.tell_heading.new.out) (string_bytes c.tell_names.new.out) (string_bytes c.tell_events.new.labels)
    (string_bytes c.tell_on_their_way.new.out)
    (c.sites-sites.ensures w stands) refl are c.new-labels.ensures.bytes c.in_ok-tell_heading.ensures c.in_ok-tell_names.ensures drew.labels c.in_ok-tell_on_their_way.ensures in
    page_told page w events c.args.captions.now c.args.top (length events) (length ways) c.depth_of.result ways
    (string_bytes c.draw_on_their_way.new.out) (string_bytes c.tell_on_their_way.new.out)
    (string_bytes c.args.out.now) (string_bytes c.tell_group.new.out) (string_bytes c.push_str.new.self) (string_bytes c.push_str-2.new.self) (string_bytes c.push_str-3.new.self)
    (string_bytes c.push_str-4.new.self)
    refl refl are c.depth_of.ensures shapes labels c.in_ok-tell_group.ensures
    (c.in_ok-push_str.ensures.bytes ∙ ap (λ t. string_bytes c.tell_group.new.out ++ t) c.as_str.ensures.value)
    (c.in_ok-push_str-2.ensures.bytes ∙ ap (λ t. string_bytes c.push_str.new.self ++ t) c.as_str-2.ensures.value)
    c.in_ok-push_str-3.ensures.bytes c.in_ok-push_str-4.ensures.bytes
