use Rattle.std.proofs.Common.{◌≡◌, ◌∙◌, ◌∷◌, ◌+◌, ap, arith, drop, string_bytes, sym}
use Rattle.std.proofs.lemmas.List.{drop_more}
use Rattle.shm_draw.specs.Svg.{flying_text, flying_label}
use Rattle.shm_draw.specs.declared.mark_kinds.Way.{Way}
use Rattle.shm_draw.proofs.Numbered.{flying_more}
use Rattle.shm_draw.proofs.envelopes_in_flight.tell_on_their_way.Goals as goal

pub ways-preserved : goal.ways-preserved
ways-preserved g c =
    let ways = c.args.ways.now in
    let index = c.ways.index in
    let way : Way = c.index-ways-index.result in
    let dropped : drop c.ways.index ways ≡ way ∷ drop (c.ways.index + 1) ways =
    drop_more ways index way (omega (arith, c.ways-test.true)) ∙ ap (λ x. x ∷ drop (c.ways.index + 1) ways) (sym c.index-ways-index.is) in
    flying_more flying_label c.args.last index c.in_ok-row.row (string_bytes c.args.out.now) (string_bytes c.ways.out) (string_bytes c.tell_head_label.new.out) (drop index ways) (drop (index + 1) ways)
    way (flying_text flying_label c.args.last 1 ways) c.in_ok-row.ensures c.in_ok-tell_head_label.ensures c.ways.invariant dropped
