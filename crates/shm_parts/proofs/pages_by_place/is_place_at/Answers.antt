use Rattle.std.proofs.Common.{◌∙◌, ◌<◌, ◌≤◌, ◌==◌, ℕ, length, slice_index_or, ap, is_some, subst, sym}
use Rattle.shm_parts.proofs.RisingLemmas.{beside, past_all, past_not_lt}
use Rattle.shm_parts.proofs.pages_by_place.is_place_at.Goals as goal

pub returns-then-index-pages-clause-there : goal.returns-then-index-pages-clause-there
returns-then-index-pages-clause-there c =
    let es = c.args.pages.now in
    let place = c.args.place in
    let row = c.index-pages-index.result in
    ap (λ (k : ℕ). (slice_index_or es k row).0 == place) c.requires.before ∙ beside es place row c.requires.rising (subst (λ (k : ℕ). k < length es) c.requires.before c.if-index-pages.true)

pub returns-else-index-pages-clause-there : goal.returns-else-index-pages-clause-there
returns-else-index-pages-clause-there c =
    let es = c.args.pages.now in
    past_not_lt c.args.index (length es) c.if-index-pages.false
    ∙ sym (ap is_some (past_all es c.args.place (subst (λ (k : ℕ). length es ≤ k) c.requires.before c.if-index-pages.false)))
