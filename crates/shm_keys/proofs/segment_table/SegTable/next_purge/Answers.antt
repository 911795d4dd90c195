use Rattle.std.proofs.Common.{◌≡◌, ◌<◌, ◌≤◌, true, length, get_or, sym, ◌∙◌, refl, arith, ⊎_elim}
use Rattle.std.proofs.lemmas.Bool.{cases_lt, false≢true, leb-true}
use Rattle.std.proofs.lemmas.List.{get_or_default}
use Rattle.shm_keys.specs.Purge.{missing_in}
use Rattle.shm_keys.proofs.Purges.{none_missing, not_missing, missing_read}
use Rattle.shm_keys.proofs.segment_table.SegTable.next_purge.Goals as goal

pub returns-then-place-len-clause-least : goal.returns-then-place-len-clause-least
returns-then-place-len-clause-least g c = λ id site above missing.
    let purges = c.self.inside.purges.items in
    let from : c.first_after.result ≤ id = leb-true c.first_after.result id (sym (c.first_after.ensures id) ∙ above) in
    let none = none_missing purges id site (λ k d lt. let h = rw c.as_slice.ensures.value at (c.place_of-place.ensures.below k d (omega arith)) in omega (arith, h, from)) in
    let some : missing_in purges id site ≡ true = rw (← c.self.view_is) at missing in
    false≢true (sym none ∙ some)

pub returns-clause-least : goal.returns-clause-least
returns-clause-least g c = λ id site above missing.
    let purges = c.self.inside.purges.items in
    let purge = c.index-purge.result.now in
    let within : c.place_of-place.result < length purges = omega arith in
    let from : c.first_after.result ≤ id = leb-true c.first_after.result id (sym (c.first_after.ensures id) ∙ above) in
    let some : missing_in purges id site ≡ true = rw (← c.self.view_is) at missing in
    ⊎_elim (λ (below : id < purge.id).
    absurd (false≢true (sym (not_missing purges c.place_of-place.result id site c.self.invariant.rising within
    (λ k d lt. let h = rw c.as_slice.ensures.value at (c.place_of-place.ensures.below k d lt) in omega (arith, h, from))
    (λ d. let e : get_or purges c.place_of-place.result d ≡ purge = get_or_default purges c.place_of-place.result d purge within ∙ sym c.index-purge.ensures in rw e below)) ∙ some)))
    (λ (not_below : purge.id ≤ id). not_below)
    (cases_lt id purge.id)

pub returns-clause-sites : goal.returns-clause-sites
returns-clause-sites g c = λ site.
    let purges = c.self.inside.purges.items in
    let within : c.place_of-place.result < length purges = omega arith in
    rw (← c.self.view_is) (sym (missing_read purges c.place_of-place.result c.index-purge.result.now c.index-purge.result.now.id site c.self.invariant.rising within c.index-purge.ensures refl))
