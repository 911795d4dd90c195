use Rattle.std.proofs.Common.{List, sym, subst, arith}
use Rattle.std.proofs.lemmas.List.{take_all}
use Rattle.shm_parts.proofs.EndLemmas.{NonePast, none_past, past_more}
use Rattle.shm_parts.proofs.page_map_helpers.end_of.Goals as goal

pub places-preserved : goal.places-preserved
places-preserved g c =
    let es = c.args.map.now.entries in
    past_more c.args.id c.places.end c.end_with-end.result es c.places.place (c.in-Some.page.now, _) (sym c.in-Some.ensures.entry) c.end_with-end.ensures.more c.end_with-end.ensures.page c.places.invariant

pub returns : goal.returns
returns g c = λ page past.
    let es = c.args.map.now.entries in
    let all = take_all c.places.place es (omega (arith, c.len-count.ensures.len, c.places-test.false)) in
    none_past c.args.id c.places.end es page (subst (λ (l : List _). NonePast c.args.id c.places.end l) all c.places.invariant) past
