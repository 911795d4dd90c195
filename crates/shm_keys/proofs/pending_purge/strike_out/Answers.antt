use Rattle.std.proofs.Common.{◌<◌, length, ap, ◌∙◌, sym, arith}
use Rattle.std.proofs.lemmas.Bool.{not-true, not-false, eqb-true, eqb-false}
use Rattle.shm_keys.specs.Purge.{missing_in}
use Rattle.shm_keys.proofs.Purges.{none_missing, kept_apart, not_read, missing_read, taken, taken_last}
use Rattle.shm_keys.proofs.pending_purge.strike_out.Goals as goal
use Rattle.shm_keys.proofs.pending_purge.strike_out.Goals.{then-ne-via-then-ne, then-ne-via-else-ne+then-not-contains}

pub returns-then-place-len-clause-was_missing : goal.returns-then-place-len-clause-was_missing
returns-then-place-len-clause-was_missing g c =
    sym (none_missing c.args.purges.now.items c.args.id c.args.site (λ k d lt.
    let h = rw (c.as_slice.ensures.value, c.id.view_is) at (c.place_of-place.ensures.below k d (omega arith)) in omega (arith, h)))

pub returns-then-place-len-clause-missing : goal.returns-then-place-len-clause-missing
returns-then-place-len-clause-missing g c =
    λ other at. kept_apart c.args.purges.now.items c.args.id c.args.site other at (sym (returns-then-place-len-clause-was_missing g c))

pub returns-then-ne-clause-was_missing : goal.returns-then-ne-clause-was_missing
returns-then-ne-clause-was_missing g c =
    let within : c.place_of-place.result < length c.args.purges.now.items = omega arith in
    let least = rw (c.as_slice.ensures.value, c.id.view_is) at (c.place_of-place.ensures.above c.place_of-place.result c.index.result.now (omega arith) (omega arith)) in
    elim c.then-ne.branch [
      | then-ne-via-then-ne w ↦ sym (not_read c.args.purges.now.items c.place_of-place.result c.index.result.now c.args.id c.args.site c.requires.rising within c.index.ensures
          (eqb-false _ _ (not-true _ (sym c.ne.ensures ∙ w.if-ne.true)))
          (λ k d lt. rw (c.as_slice.ensures.value, c.id.view_is) at (c.place_of-place.ensures.below k d lt)) least)
      | then-ne-via-else-ne+then-not-contains w ↦ sym (missing_read c.args.purges.now.items c.place_of-place.result c.index.result.now c.args.id c.args.site c.requires.rising within c.index.ensures
          (eqb-true _ _ (not-false _ (sym c.ne.ensures ∙ w.if-ne.false))) ∙ grind arith)
    ]

pub returns-then-ne-clause-missing : goal.returns-then-ne-clause-missing
returns-then-ne-clause-missing g c =
    λ other at. kept_apart c.args.purges.now.items c.args.id c.args.site other at (sym (returns-then-ne-clause-was_missing g c))

pub returns-then-is_empty-clause-missing : goal.returns-then-is_empty-clause-missing
returns-then-is_empty-clause-missing g c = λ other at.
    let within : c.place_of-place.result < length c.args.purges.now.items = omega arith in
    ap (λ ps. missing_in ps other at) c.remove.ensures.items
    ∙ taken_last c.args.purges.now.items c.place_of-place.result c.index.result.now c.args.id c.args.site c.without-missing.result c.requires.rising within c.index.ensures
    (eqb-true _ _ (not-false _ (sym c.ne.ensures ∙ c.if-ne.false))) (λ n. c.without-missing.ensures n) (sym c.is_empty.ensures ∙ c.if-is_empty.true) other at

pub returns-else-is_empty-clause-missing : goal.returns-else-is_empty-clause-missing
returns-else-is_empty-clause-missing g c =
    let within : c.place_of-place.result < length c.args.purges.now.items = omega arith in
    taken c.args.purges.now.items c.place_of-place.result c.index.result.now c.args.id c.args.site c.without-missing.result c.requires.rising within c.index.ensures
    (eqb-true _ _ (not-false _ (sym c.ne.ensures ∙ c.if-ne.false))) (λ n. c.without-missing.ensures n)
