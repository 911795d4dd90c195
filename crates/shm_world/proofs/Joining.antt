-- How values join those under numbers that rise, and how the empty places are given up.
use Rattle.std.proofs.Common.{◌≡◌, ℕ, ◌+◌, ◌<◌, ◌≤◌, ◌==◌, Bool, true, false, List, [], ◌∷◌, ◌++◌, Option, Some, None, if◌then◌else◌, nat_le, nat_lt, refl, sym, ap, ◌∙◌, arith, zero, suc, add-one, true≢false}
use Rattle.std.proofs.lemmas.Bool.{and_from}
use Rattle.std.proofs.lemmas.Bool.Decides.{nat_tests}
use Rattle.std.proofs.lemmas.Option.{none-some}
use Rattle.std.specs.List.{filter, insert}
use Rattle.std.specs.Option.{is_some}
use Rattle.shm_world.specs.ByNumber.{StandsAt, place_for, rises, value_of}
use Rattle.shm_world.specs.declared.numbered_place.Place.{Place}
use Rattle.shm_world.proofs.Numbers.{below, first_of, from, is_lt, is_same, le, more, none_below, rest_of, sooner}

module _ {V : Type 0} where
  -- ---- behind the others

  pub pushed-values : (least next k : ℕ) (p : Place V) (ps : List (Place V)) → rises least ps next ≡ true → next ≤ p.number
      → value_of k (ps ++ p ∷ []) ≡ (if p.number == k then p.value else value_of k ps)
  pushed-values least next k p [] h high = refl
  pushed-values least next k p (q ∷ ps) h high = by (q.number == k) refl (pushed-values (q.number + 1) next k p ps (rest_of least next q ps h) high)
    where
      by : (b : Bool) → (q.number == k) ≡ b → value_of k (ps ++ p ∷ []) ≡ (if p.number == k then p.value else value_of k ps)
          → (if b then q.value else value_of k (ps ++ p ∷ [])) ≡ (if p.number == k then p.value else (if b then q.value else value_of k ps))
      by true e rec =
          let low = below (q.number + 1) next ps (rest_of least next q ps h) in
          ap (λ b. if b then p.value else q.value) (sym (more p.number k (omega (arith, low, high, is_same q.number k e))))
      by false e rec = rec

  pub pushed-rises : (least next : ℕ) (p : Place V) (ps : List (Place V)) → rises least ps next ≡ true → next ≤ p.number → rises least (ps ++ p ∷ []) (p.number + 1) ≡ true
  pushed-rises least next p [] h high =
      let low = below {V = V} least next [] h in
      and_from (nat_le least p.number) (nat_le (p.number + 1) (p.number + 1)) (le least p.number (omega (arith, low, high))) (le (p.number + 1) (p.number + 1) (omega arith))
  pushed-rises least next p (q ∷ ps) h high =
      let rest = rest_of least next q ps h in
      and_from (nat_le least q.number) (rises (q.number + 1) (ps ++ p ∷ []) (p.number + 1)) (le least q.number (first_of least next q ps h)) (pushed-rises (q.number + 1) next p ps rest high)

  -- the next number may be any that is greater
  pub passed-rises : (least next later : ℕ) (ps : List (Place V)) → rises least ps next ≡ true → next ≤ later → rises least ps later ≡ true
  passed-rises least next later [] h more = let low = below {V = V} least next [] h in le least later (omega (arith, low, more))
  passed-rises least next later (q ∷ ps) h more =
      and_from (nat_le least q.number) (rises (q.number + 1) ps later) (le least q.number (first_of least next q ps h)) (passed-rises (q.number + 1) next later ps (rest_of least next q ps h) more)

  pub pushed-stands : (k at : ℕ) (ps qs : List (Place V)) → StandsAt k at ps → StandsAt k at (ps ++ qs)
  pushed-stands k at [] qs s = absurd (none-some k s)
  pushed-stands k zero (p ∷ ps) qs s = s
  pushed-stands k (suc at) (p ∷ ps) qs s = pushed-stands k at ps qs s

  -- ---- between the others

  next_place : (k : ℕ) (p q : Place V) (ps : List (Place V)) → insert (q ∷ ps) (place_for k ps + 1) p ≡ q ∷ insert ps (place_for k ps) p
  next_place k p q ps = ap (λ n. insert (q ∷ ps) n p) (add-one (place_for k ps))

  pub inserted-is : (at : ℕ) (p : Place V) (b : Bool) (ps new : List (Place V)) → new ≡ (if b then insert ps at p else ps) → b ≡ true → at ≡ place_for p.number ps
      → new ≡ insert ps (place_for p.number ps) p
  inserted-is at p b ps new is done here = is ∙ ap (λ b. if b then insert ps at p else ps) done ∙ ap (λ n. insert ps n p) here

  pub inserted-values : (k : ℕ) (p : Place V) (ps : List (Place V)) → value_of k (insert ps (place_for p.number ps) p) ≡ (if p.number == k then p.value else value_of k ps)
  inserted-values k p [] = refl
  inserted-values k p (q ∷ ps) = by (nat_lt q.number p.number) refl (inserted-values k p ps)
    where
      here : (b : Bool) → (q.number == k) ≡ b → q.number < p.number → value_of k (insert ps (place_for p.number ps) p) ≡ (if p.number == k then p.value else value_of k ps)
          → (if b then q.value else value_of k (insert ps (place_for p.number ps) p)) ≡ (if p.number == k then p.value else (if b then q.value else value_of k ps))
      here true e low rec = ap (λ b. if b then p.value else q.value) (sym (more p.number k (omega (arith, low, is_same q.number k e))))
      here false e low rec = rec

      by : (b : Bool) → nat_lt q.number p.number ≡ b → value_of k (insert ps (place_for p.number ps) p) ≡ (if p.number == k then p.value else value_of k ps)
          → value_of k (insert (q ∷ ps) (if b then place_for p.number ps + 1 else 0) p) ≡ (if p.number == k then p.value else value_of k (q ∷ ps))
      by true e rec = ap (value_of k) (next_place p.number p q ps) ∙ here (q.number == k) refl (is_lt q.number p.number e) rec
      by false e rec = refl

  pub inserted-rises : (least next : ℕ) (p : Place V) (ps : List (Place V)) → rises least ps next ≡ true → least ≤ p.number → p.number < next
      → ((at : ℕ) → StandsAt p.number at ps → ⊥) → rises least (insert ps (place_for p.number ps) p) next ≡ true
  inserted-rises least next p [] h low high absent =
      and_from (nat_le least p.number) (nat_le (p.number + 1) next) (le least p.number low) (le (p.number + 1) next (omega (arith, high)))
  inserted-rises least next p (q ∷ ps) h low high absent =
      by (nat_lt q.number p.number) refl (λ behind. inserted-rises (q.number + 1) next p ps (rest_of least next q ps h) behind high (λ at s. absent (suc at) s))
    where
      rest : rises (q.number + 1) ps next ≡ true
      rest = rest_of least next q ps h

      apart : (b : Bool) → (p.number == q.number) ≡ b → p.number ≤ q.number → p.number + 1 ≤ q.number
      apart true e high = absurd (absent 0 (ap Some (sym (is_same p.number q.number e))))
      apart false e high = grind (arith, nat_tests)

      by : (b : Bool) → nat_lt q.number p.number ≡ b → (q.number + 1 ≤ p.number → rises (q.number + 1) (insert ps (place_for p.number ps) p) next ≡ true)
          → rises least (insert (q ∷ ps) (if b then place_for p.number ps + 1 else 0) p) next ≡ true
      by true e rec =
          ap (λ qs. rises least qs next) (next_place p.number p q ps)
          ∙ and_from (nat_le least q.number) (rises (q.number + 1) (insert ps (place_for p.number ps) p) next) (le least q.number (first_of least next q ps h))
          (rec (omega (arith, is_lt q.number p.number e)))
      by false e rec =
          and_from (nat_le least p.number) (rises (p.number + 1) (q ∷ ps) next) (le least p.number low)
          (and_from (nat_le (p.number + 1) q.number) (rises (q.number + 1) ps next)
          (le (p.number + 1) q.number (apart (p.number == q.number) refl (from q.number p.number e))) rest)

  -- ---- without the empty places

  abbrev pub is_full : Place V → Bool
  is_full p = is_some p.value

  empty_is : (o : Option V) → is_some o ≡ false → o ≡ None
  empty_is None h = refl
  empty_is (Some v) h = absurd (true≢false h)

  pub swept-values : (least next k : ℕ) (ps : List (Place V)) → rises least ps next ≡ true → value_of k (filter is_full ps) ≡ value_of k ps
  swept-values least next k [] h = refl
  swept-values least next k (p ∷ ps) h = by (is_full p) refl (swept-values (p.number + 1) next k ps rest)
    where
      rest : rises (p.number + 1) ps next ≡ true
      rest = rest_of least next p ps h

      gone : (b : Bool) → (p.number == k) ≡ b → value_of k ps ≡ (if b then None else value_of k ps)
      gone true e = none_below (p.number + 1) next k ps rest (omega (arith, is_same p.number k e))
      gone false e = refl

      by : (b : Bool) → is_full p ≡ b → value_of k (filter is_full ps) ≡ value_of k ps → value_of k (if b then p ∷ filter is_full ps else filter is_full ps) ≡ value_of k (p ∷ ps)
      by true e rec = ap (λ o. if p.number == k then p.value else o) rec
      by false e rec = rec ∙ gone (p.number == k) refl ∙ ap (λ o. if p.number == k then o else value_of k ps) (sym (empty_is p.value e))

  pub swept-rises : (least next : ℕ) (ps : List (Place V)) → rises least ps next ≡ true → rises least (filter is_full ps) next ≡ true
  swept-rises least next [] h = h
  swept-rises least next (p ∷ ps) h = by (is_full p) (swept-rises (p.number + 1) next ps (rest_of least next p ps h))
    where
      by : (b : Bool) → rises (p.number + 1) (filter is_full ps) next ≡ true → rises least (if b then p ∷ filter is_full ps else filter is_full ps) next ≡ true
      by true rec = and_from (nat_le least p.number) (rises (p.number + 1) (filter is_full ps) next) (le least p.number (first_of least next p ps h)) rec
      by false rec = sooner (p.number + 1) least next (filter is_full ps) (omega (arith, first_of least next p ps h)) rec
