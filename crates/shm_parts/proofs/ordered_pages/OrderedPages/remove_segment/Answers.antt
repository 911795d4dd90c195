use Rattle.std.proofs.Common.{◌≡◌, ap, ◌∙◌, ◌+◌, subst, arith}
use Rattle.shm_parts.specs.OrderedPages.{IsWithin, without}
use Rattle.shm_parts.proofs.OrderedPagesLemmas.{gone_below, gone-all, gone-next, gone-none}
use Rattle.shm_parts.proofs.ordered_pages.OrderedPages.remove_segment.Goals as goal

pub indexes-init : goal.indexes-init
indexes-init g c = gone-none c.args.id c.args.self.now

pub indexes-preserved : goal.indexes-preserved
indexes-preserved g c =
    c.remove.ensures.all ∙ ap (without (record { seg = c.args.id; index = c.indexes.index })) c.indexes.invariant ∙ gone-next c.args.id c.indexes.index c.args.self.now

pub returns : goal.returns
returns g c =
    let id = c.args.id in
    let last = c.self.inside.last in
    let here : c.indexes.index ≡ last = omega (arith, c.indexes-test.false, c.indexes.auto.index-end) in
    c.remove-2.ensures.all
    ∙ ap (without (record { seg = id; index = last })) (c.indexes.invariant ∙ ap (λ i. gone_below id i c.args.self.now) here)
    ∙ gone-next id last c.args.self.now
    ∙ gone-all id last (last + 1) c.args.self.now (omega arith) (subst (IsWithin last) c.self.view_is c.self.invariant.1)
