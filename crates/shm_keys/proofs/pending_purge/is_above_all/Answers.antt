use Rattle.std.proofs.Common.{◌≡◌, ◌<◌, ◌≤◌, ◌∙◌, [], nat_lt, length, get_or, sym, arith, ⊎_elim}
use Rattle.std.proofs.lemmas.Bool.{cases_eq, eq-eqb, ne_eqb, lt-ltb, le-ltb}
use Rattle.std.proofs.lemmas.List.Folds.{list_all_at}
use Rattle.std.proofs.lemmas.List.Sums.{list_all-from_AllPass}
use Rattle.shm_keys.specs.declared.pending_purge.Purge.{Purge}
use Rattle.shm_keys.proofs.pending_purge.is_above_all.Goals as goal

nothing : Purge
nothing = record { id = 0; missing = [] }

pub returns : goal.returns
returns c =
    let purges = c.args.purges.now in
    let place = c.place_of-place.result in
    ⊎_elim
    (λ (end : place ≡ length purges).
    eq-eqb place (length purges) end
    ∙ sym (list_all-from_AllPass (λ p. nat_lt p.id c.args.id) purges (λ k d lt.
    lt-ltb (get_or purges k d).id c.args.id (rw c.id.view_is at (c.place_of-place.ensures.below k d (omega (arith, end, lt)))))))
    (λ (before : place ≡ length purges → ⊥).
    let within : place < length purges = let low = c.place_of-place.ensures.within in omega (arith, low, before) in
    let least : c.args.id ≤ (get_or purges place nothing).id = rw c.id.view_is at (c.place_of-place.ensures.above place nothing (omega arith) within) in
    ne_eqb place (length purges) before
    ∙ sym (list_all_at (λ p. nat_lt p.id c.args.id) purges place nothing within (le-ltb (get_or purges place nothing).id c.args.id least)))
    (cases_eq place (length purges))
