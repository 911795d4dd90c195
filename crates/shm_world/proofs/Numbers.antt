-- What stands under numbers that rise.
use Rattle.std.proofs.Common.{◌≡◌, ℕ, ◌+◌, ◌-◌, ◌/◌, ◌<◌, ◌≤◌, ◌==◌, ◌&&◌, Bool, true, false, List, [], ◌∷◌, Option, Some, None, if◌then◌else◌, nat_le, nat_lt, slice_get, slice_set, take, length, refl, sym, ap, ◌∙◌, arith, zero, suc, true≢false, slice_index_or, IfNone}
use Rattle.std.proofs.lemmas.Bool.{and_from, and_parts}
use Rattle.std.proofs.lemmas.Bool.Decides.{nat_tests}
use Rattle.std.proofs.lemmas.Option.{same_Some, none-some, slice_get_past, slice_get_read, slice_get_within}
use Rattle.std.specs.Option.{option_map}
use Rattle.shm_world.specs.ByNumber.{StandsAt, place_for, rises, value_of}
use Rattle.shm_world.specs.declared.numbered_place.Place.{Place}

-- ---- tests of numbers

pub le : (a b : ℕ) → a ≤ b → nat_le a b ≡ true
le a b h = grind (arith, nat_tests)

is_le : (a b : ℕ) → nat_le a b ≡ true → a ≤ b
is_le a b h = grind (arith, nat_tests)

not_le : (a b : ℕ) → b < a → nat_le a b ≡ false
not_le a b h = grind (arith, nat_tests)

over : (a b : ℕ) → nat_le a b ≡ false → b < a
over a b h = grind (arith, nat_tests)

lt : (a b : ℕ) → a < b → nat_lt a b ≡ true
lt a b h = grind (arith, nat_tests)

pub is_lt : (a b : ℕ) → nat_lt a b ≡ true → a < b
is_lt a b h = grind (arith, nat_tests)

not_lt : (a b : ℕ) → b ≤ a → nat_lt a b ≡ false
not_lt a b h = grind (arith, nat_tests)

pub from : (a b : ℕ) → nat_lt a b ≡ false → b ≤ a
from a b h = grind (arith, nat_tests)

pub less : (a b : ℕ) → a < b → (a == b) ≡ false
less a b h = grind (arith, nat_tests)

pub more : (a b : ℕ) → b < a → (a == b) ≡ false
more a b h = grind (arith, nat_tests)

same : (a b : ℕ) → a ≡ b → (a == b) ≡ true
same a b h = grind (arith, nat_tests)

pub is_same : (a b : ℕ) → (a == b) ≡ true → a ≡ b
is_same a b h = grind (arith, nat_tests)

pub middle_below : (low high : ℕ) → low < high → low + (high - low) / 2 < high
middle_below low high h = omega (arith, h)

counted : (b : Bool) (n m : ℕ) → n ≤ m → (if b then n + 1 else 0) ≤ suc m
counted true n m h = omega (arith, h)
counted false n m h = omega arith

counts : (b : Bool) (n : ℕ) → b ≡ true → (if b then n + 1 else 0) ≡ n + 1
counts true n h = refl
counts false n h = absurd (true≢false (sym h))

counts_none : (b : Bool) (n : ℕ) → b ≡ false → (if b then n + 1 else 0) ≡ 0
counts_none true n h = absurd (true≢false h)
counts_none false n h = refl

module _ {V : Type 0} where
  -- ---- the order

  pub first_of : (least next : ℕ) (p : Place V) (ps : List (Place V)) → rises least (p ∷ ps) next ≡ true → least ≤ p.number
  first_of least next p ps h = is_le least p.number (and_parts (nat_le least p.number) (rises (p.number + 1) ps next) h).0

  pub rest_of : (least next : ℕ) (p : Place V) (ps : List (Place V)) → rises least (p ∷ ps) next ≡ true → rises (p.number + 1) ps next ≡ true
  rest_of least next p ps h = (and_parts (nat_le least p.number) (rises (p.number + 1) ps next) h).1

  pub sooner : (least less next : ℕ) (ps : List (Place V)) → less ≤ least → rises least ps next ≡ true → rises less ps next ≡ true
  sooner least less next [] low h = le less next (omega (arith, low, is_le least next h))
  sooner least less next (p ∷ ps) low h =
      and_from (nat_le less p.number) (rises (p.number + 1) ps next) (le less p.number (omega (arith, low, first_of least next p ps h))) (rest_of least next p ps h)

  pub below : (least next : ℕ) (ps : List (Place V)) → rises least ps next ≡ true → least ≤ next
  below least next [] h = is_le least next h
  below least next (p ∷ ps) h = omega (arith, below (p.number + 1) next ps (rest_of least next p ps h), first_of least next p ps h)

  other : (p : Place V) (k : ℕ) (ps : List (Place V)) → (p.number == k) ≡ false → value_of k ps ≡ None → value_of k (p ∷ ps) ≡ None
  other p k ps h none = ap (λ b. if b then p.value else value_of k ps) h ∙ none

  -- below the least there is none
  pub none_below : (least next k : ℕ) (ps : List (Place V)) → rises least ps next ≡ true → k < least → value_of k ps ≡ None
  none_below least next k [] h low = refl
  none_below least next k (p ∷ ps) h low =
      let least_is = first_of least next p ps h in
      other p k ps (more p.number k (omega (arith, least_is, low))) (none_below (p.number + 1) next k ps (rest_of least next p ps h) (omega (arith, least_is, low)))

  -- nor from the next on
  pub none_from : (least next k : ℕ) (ps : List (Place V)) → rises least ps next ≡ true → next ≤ k → value_of k ps ≡ None
  none_from least next k [] order high = refl
  none_from least next k (p ∷ ps) order high =
      let low = below (p.number + 1) next ps (rest_of least next p ps order) in
      other p k ps (less p.number k (omega (arith, low, high))) (none_from (p.number + 1) next k ps (rest_of least next p ps order) high)

  -- what stands at a place is not below the least
  pub number_from : (least next at : ℕ) (p : Place V) (ps : List (Place V)) → rises least ps next ≡ true → slice_get ps at ≡ Some p → least ≤ p.number
  number_from least next at p [] h is = absurd (none-some p is)
  number_from least next zero p (q ∷ ps) h is =
      let here : q.number ≡ p.number = ap (λ (r : Place V). r.number) (same_Some q p is) in
      omega (arith, here, first_of least next q ps h)
  number_from least next (suc at) p (q ∷ ps) h is =
      omega (arith, first_of least next q ps h, number_from (q.number + 1) next at p ps (rest_of least next q ps h) is)

  -- ---- the place for a number

  pub place_within : (k : ℕ) (ps : List (Place V)) → place_for k ps ≤ length ps
  place_within k [] = omega arith
  place_within k (p ∷ ps) = counted (nat_lt p.number k) (place_for k ps) (length ps) (place_within k ps)

  -- it is behind a lesser number
  pub past_less : (least next k at : ℕ) (p : Place V) (ps : List (Place V)) → rises least ps next ≡ true → slice_get ps at ≡ Some p → p.number < k → at + 1 ≤ place_for k ps
  past_less least next k at p [] h is low = absurd (none-some p is)
  past_less least next k zero p (q ∷ ps) h is low =
      let here : q.number ≡ p.number = ap (λ (r : Place V). r.number) (same_Some q p is) in
      let all = counts (nat_lt q.number k) (place_for k ps) (lt q.number k (omega (arith, here, low))) in
      omega (arith, all)
  past_less least next k (suc at) p (q ∷ ps) h is low =
      let rest = rest_of least next q ps h in
      let all = counts (nat_lt q.number k) (place_for k ps) (lt q.number k (omega (arith, number_from (q.number + 1) next at p ps rest is, low))) in
      omega (arith, all, past_less (q.number + 1) next k at p ps rest is low)

  -- and not behind another
  pub not_past : (k at : ℕ) (p : Place V) (ps : List (Place V)) → slice_get ps at ≡ Some p → k ≤ p.number → place_for k ps ≤ at
  not_past k at p [] is high = absurd (none-some p is)
  not_past k zero p (q ∷ ps) is high =
      let here : q.number ≡ p.number = ap (λ (r : Place V). r.number) (same_Some q p is) in
      let none = counts_none (nat_lt q.number k) (place_for k ps) (not_lt q.number k (omega (arith, here, high))) in
      omega (arith, none)
  not_past k (suc at) p (q ∷ ps) is high = counted (nat_lt q.number k) (place_for k ps) at (not_past k at p ps is high)

  -- the place of a number is the place for it
  pub place_is : (least next at : ℕ) (p : Place V) (ps : List (Place V)) → rises least ps next ≡ true → slice_get ps at ≡ Some p → place_for p.number ps ≡ at
  place_is least next at p [] h is = absurd (none-some p is)
  place_is least next zero p (q ∷ ps) h is =
      let here : q.number ≡ p.number = ap (λ (r : Place V). r.number) (same_Some q p is) in
      counts_none (nat_lt q.number p.number) (place_for p.number ps) (not_lt q.number p.number (omega (arith, here)))
  place_is least next (suc at) p (q ∷ ps) h is =
      let rest = rest_of least next q ps h in
      let all = counts (nat_lt q.number p.number) (place_for p.number ps) (lt q.number p.number (omega (arith, number_from (q.number + 1) next at p ps rest is))) in
      omega (arith, all, place_is (q.number + 1) next at p ps rest is)

  -- what stands somewhere
  pub stands : (k at : ℕ) (p : Place V) (ps : List (Place V)) → slice_get ps at ≡ Some p → p.number ≡ k → StandsAt k at ps
  stands k at p ps is number = ap (option_map (λ (q : Place V). q.number)) is ∙ ap Some number

  number_at : (k at : ℕ) (p : Place V) (ps : List (Place V)) → slice_get ps at ≡ Some p → StandsAt k at ps → p.number ≡ k
  number_at k at p ps is s = same_Some p.number k (sym (ap (option_map (λ (q : Place V). q.number)) is) ∙ s)

  pub stood : (k at : ℕ) (ps : List (Place V)) → StandsAt k at ps → (p : Place V) × ((slice_get ps at ≡ Some p) × (p.number ≡ k))
  stood k at ps h = by (slice_get ps at) refl h
    where
      by : (o : Option (Place V)) → slice_get ps at ≡ o → option_map (λ (p : Place V). p.number) o ≡ Some k → (p : Place V) × ((slice_get ps at ≡ Some p) × (p.number ≡ k))
      by None e g = absurd (none-some k g)
      by (Some p) e g = (p, (e, same_Some p.number k g))

  pub stands_within : (k at : ℕ) (ps : List (Place V)) → StandsAt k at ps → at < length ps
  stands_within k at ps s = let it = stood k at ps s in slice_get_within ps at it.0 it.1.0

  pub read_at : (k at : ℕ) (p : Place V) (ps : List (Place V)) → StandsAt k at ps → p ≡ slice_index_or ps at p → slice_get ps at ≡ Some p
  read_at k at p ps s r = slice_get_read ps (length ps) at p refl (stands_within k at ps s) r

  pub found : (at : ℕ) (p : Place V) (xs ps : List (Place V)) → xs ≡ ps → true ≡ nat_lt at (length xs) → p ≡ slice_index_or xs at p → slice_get ps at ≡ Some p
  found at p xs ps is low r = ap (λ l. slice_get l at) (sym is) ∙ slice_get_read xs (length xs) at p refl (is_lt at (length xs) (sym low)) r

  -- a number has no place where there is none at its place, or another
  pub unplaced : (next k here : ℕ) (xs ps : List (Place V)) → rises 0 ps next ≡ true → here ≡ place_for k ps → xs ≡ ps → false ≡ nat_lt here (length xs)
      → (at : ℕ) → StandsAt k at ps → ⊥
  unplaced next k here xs ps h is same past at s = by (slice_get ps at) refl s
    where
      by : (o : Option (Place V)) → slice_get ps at ≡ o → option_map (λ (p : Place V). p.number) o ≡ Some k → ⊥
      by None e g = none-some k g
      by (Some p) e g =
          let place : place_for k ps ≡ at = ap (λ n. place_for n ps) (sym (same_Some p.number k g)) ∙ place_is 0 next at p ps h e in
          let long : length xs ≡ length ps = ap length same in
          let high : length ps ≤ at = omega (arith, from here (length xs) (sym past), place, long, is) in
          none-some p (sym (slice_get_past ps at high) ∙ e)

  pub misplaced : (next k here : ℕ) (p : Place V) (ps : List (Place V)) → rises 0 ps next ≡ true → here ≡ place_for k ps → slice_get ps here ≡ Some p → (p.number ≡ k → ⊥)
      → (at : ℕ) → StandsAt k at ps → ⊥
  misplaced next k here p ps h place is not at s = by (slice_get ps at) refl s
    where
      by : (o : Option (Place V)) → slice_get ps at ≡ o → option_map (λ (p : Place V). p.number) o ≡ Some k → ⊥
      by None e g = none-some k g
      by (Some q) e g =
          let there : here ≡ at = place ∙ ap (λ n. place_for n ps) (sym (same_Some q.number k g)) ∙ place_is 0 next at q ps h e in
          let one : p ≡ q = same_Some p q (sym is ∙ ap (slice_get ps) there ∙ e) in
          not (ap (λ (r : Place V). r.number) one ∙ same_Some q.number k g)

  -- ---- the value of a number

  pub value_there : (least next at : ℕ) (p : Place V) (ps : List (Place V)) → rises least ps next ≡ true → slice_get ps at ≡ Some p → value_of p.number ps ≡ p.value
  value_there least next at p [] h is = absurd (none-some p is)
  value_there least next zero p (q ∷ ps) h is =
      let here = same_Some q p is in
      let number : q.number ≡ p.number = ap (λ (r : Place V). r.number) here in
      ap (λ b. if b then q.value else value_of p.number ps) (same q.number p.number number) ∙ ap (λ (r : Place V). r.value) here
  value_there least next (suc at) p (q ∷ ps) h is =
      let rest = rest_of least next q ps h in
      ap (λ b. if b then q.value else value_of p.number ps) (less q.number p.number (omega (arith, number_from (q.number + 1) next at p ps rest is)))
      ∙ value_there (q.number + 1) next at p ps rest is

  pub value_read : (next k at : ℕ) (p : Place V) (ps : List (Place V)) → rises 0 ps next ≡ true → StandsAt k at ps → p ≡ slice_index_or ps at p → value_of k ps ≡ p.value
  value_read next k at p ps h s r =
      let is = read_at k at p ps s r in
      ap (λ n. value_of n ps) (sym (number_at k at p ps is s)) ∙ value_there 0 next at p ps h is

  absent_step : (b : Bool) (k : ℕ) (p : Place V) (o : Option V) → (p.number == k) ≡ b → (p.number ≡ k → ⊥) → o ≡ None → (if b then p.value else o) ≡ None
  absent_step true k p o e not rest = absurd (not (is_same p.number k e))
  absent_step false k p o e not rest = rest

  pub value_absent : (k : ℕ) (ps : List (Place V)) → ((at : ℕ) → StandsAt k at ps → ⊥) → value_of k ps ≡ None
  value_absent k [] none = refl
  value_absent k (p ∷ ps) none = absent_step (p.number == k) k p (value_of k ps) refl (λ e. none 0 (ap Some e)) (value_absent k ps (λ at s. none (suc at) s))

  pub none_already : (number k : ℕ) (ps : List (Place V)) → value_of number ps ≡ None → value_of k ps ≡ (if number == k then None else value_of k ps)
  none_already number k ps none = by (number == k) refl
    where
      by : (b : Bool) → (number == k) ≡ b → value_of k ps ≡ (if b then None else value_of k ps)
      by true e = ap (λ n. value_of n ps) (sym (is_same number k e)) ∙ none
      by false e = refl

  -- ---- another place under the same number

  twice : (b : Bool) (w v o : Option V) → (if b then w else o) ≡ (if b then w else (if b then v else o))
  twice true w v o = refl
  twice false w v o = refl

  pub set_values : (least next k at : ℕ) (p w : Place V) (ps : List (Place V)) → rises least ps next ≡ true → slice_get ps at ≡ Some p → w.number ≡ p.number
      → value_of k (slice_set ps at w) ≡ (if p.number == k then w.value else value_of k ps)
  set_values least next k at p w [] h is number = absurd (none-some p is)
  set_values least next k zero p w (q ∷ ps) h is number =
      let here : q.number ≡ p.number = ap (λ (r : Place V). r.number) (same_Some q p is) in
      ap (λ n. if n == k then w.value else value_of k ps) number
      ∙ twice (p.number == k) w.value q.value (value_of k ps)
      ∙ ap (λ n. if p.number == k then w.value else (if n == k then q.value else value_of k ps)) (sym here)
  set_values least next k (suc at) p w (q ∷ ps) h is number =
      let rest = rest_of least next q ps h in
      by (number_from (q.number + 1) next at p ps rest is) (q.number == k) refl (set_values (q.number + 1) next k at p w ps rest is number)
    where
      by : q.number + 1 ≤ p.number → (b : Bool) → (q.number == k) ≡ b → value_of k (slice_set ps at w) ≡ (if p.number == k then w.value else value_of k ps)
          → (if b then q.value else value_of k (slice_set ps at w)) ≡ (if p.number == k then w.value else (if b then q.value else value_of k ps))
      by low true e rec = ap (λ b. if b then w.value else q.value) (sym (more p.number k (omega (arith, low, is_same q.number k e))))
      by low false e rec = rec

  pub set_rises : (least next at : ℕ) (p w : Place V) (ps : List (Place V)) → slice_get ps at ≡ Some p → w.number ≡ p.number
      → rises least (slice_set ps at w) next ≡ rises least ps next
  set_rises least next at p w [] is number = absurd (none-some p is)
  set_rises least next zero p w (q ∷ ps) is number =
      ap (λ n. nat_le least n && rises (n + 1) ps next) (number ∙ sym (ap (λ (r : Place V). r.number) (same_Some q p is)))
  set_rises least next (suc at) p w (q ∷ ps) is number = ap (λ b. nat_le least q.number && b) (set_rises (q.number + 1) next at p w ps is number)

  pub set_there : (at : ℕ) (p w : Place V) (ps : List (Place V)) → slice_get ps at ≡ Some p → slice_get (slice_set ps at w) at ≡ Some w
  set_there at p w [] is = absurd (none-some p is)
  set_there zero p w (q ∷ ps) is = refl
  set_there (suc at) p w (q ∷ ps) is = set_there at p w ps is

  -- what is written where a number stands, under that number
  pub put_values : (next number k at : ℕ) (p w : Place V) (v : Option V) (ps : List (Place V)) → rises 0 ps next ≡ true → StandsAt number at ps → p ≡ slice_index_or ps at p
      → w.number ≡ p.number → w.value ≡ v → value_of k (slice_set ps at w) ≡ (if number == k then v else value_of k ps)
  put_values next number k at p w v ps h s r same value =
      let is = read_at number at p ps s r in
      set_values 0 next k at p w ps h is same
      ∙ ap (λ n. if n == k then w.value else value_of k ps) (number_at number at p ps is s)
      ∙ ap (λ o. if number == k then o else value_of k ps) value

  pub put_rises : (next number at : ℕ) (p w : Place V) (ps : List (Place V)) → rises 0 ps next ≡ true → StandsAt number at ps → p ≡ slice_index_or ps at p
      → w.number ≡ p.number → rises 0 (slice_set ps at w) next ≡ true
  put_rises next number at p w ps h s r same = set_rises 0 next at p w ps (read_at number at p ps s r) same ∙ h

  pub put_stands : (number at : ℕ) (p w : Place V) (ps : List (Place V)) → StandsAt number at ps → p ≡ slice_index_or ps at p
      → w.number ≡ p.number → StandsAt number at (slice_set ps at w)
  put_stands number at p w ps s r same =
      let is = read_at number at p ps s r in
      stands number at w (slice_set ps at w) (set_there at p w ps is) (same ∙ number_at number at p ps is s)

  -- ---- the places before that of a number

  rises_step : (b : Bool) (n least first : ℕ) (p : Place V) (ps : List (Place V)) → nat_lt p.number first ≡ b → least ≤ p.number → least ≤ first
      → (p.number + 1 ≤ first → rises (p.number + 1) (take n ps) first ≡ true) → rises least (take (if b then n + 1 else 0) (p ∷ ps)) first ≡ true
  rises_step true n least first p ps e here low rest =
      let next : n + 1 ≡ suc n = omega arith in
      ap (λ m. rises least (take m (p ∷ ps)) first) next
      ∙ and_from (nat_le least p.number) (rises (p.number + 1) (take n ps) first) (le least p.number here) (rest (omega (arith, is_lt p.number first e)))
  rises_step false n least first p ps e here low rest = le least first low

  first_rises : (least next first : ℕ) (ps : List (Place V)) → rises least ps next ≡ true → least ≤ first → rises least (take (place_for first ps) ps) first ≡ true
  first_rises least next first [] h low = le least first low
  first_rises least next first (p ∷ ps) h low =
      rises_step (nat_lt p.number first) (place_for first ps) least first p ps refl (first_of least next p ps h) low
      (λ later. first_rises (p.number + 1) next first ps (rest_of least next p ps h) later)

  kept_none : (b : Bool) (o : Option V) → o ≡ None → (if b then None else o) ≡ o
  kept_none true o h = sym h
  kept_none false o h = refl

  kept_first : (b : Bool) (first k : ℕ) (p : Place V) (o now : Option V) → (p.number == k) ≡ b → p.number < first → now ≡ (if nat_le first k then None else o)
      → (if b then p.value else now) ≡ (if nat_le first k then None else (if b then p.value else o))
  kept_first true first k p o now e low rest = ap (λ b. if b then None else p.value) (sym (not_le first k (omega (arith, low, is_same p.number k e))))
  kept_first false first k p o now e low rest = rest

  gone_first : (b : Bool) (first k : ℕ) (o : Option V) → nat_le first k ≡ b → (k < first → o ≡ None) → (if b then None else o) ≡ None
  gone_first true first k o e none = refl
  gone_first false first k o e none = none (over first k e)

  values_step : (b : Bool) (n next first k : ℕ) (p : Place V) (ps : List (Place V)) → nat_lt p.number first ≡ b → rises (p.number + 1) ps next ≡ true
      → value_of k (take n ps) ≡ (if nat_le first k then None else value_of k ps)
      → value_of k (take (if b then n + 1 else 0) (p ∷ ps)) ≡ (if nat_le first k then None else value_of k (p ∷ ps))
  values_step true n next first k p ps e h rest =
      let more : n + 1 ≡ suc n = omega arith in
      ap (λ m. value_of k (take m (p ∷ ps))) more
      ∙ kept_first (p.number == k) first k p (value_of k ps) (value_of k (take n ps)) refl (is_lt p.number first e) rest
  values_step false n next first k p ps e h rest =
      sym (gone_first (nat_le first k) first k (value_of k (p ∷ ps)) refl
      (λ low. none_below first next k (p ∷ ps) (and_from (nat_le first p.number) (rises (p.number + 1) ps next) (le first p.number (from p.number first e)) h) low))

  first_values : (least next first k : ℕ) (ps : List (Place V)) → rises least ps next ≡ true
      → value_of k (take (place_for first ps) ps) ≡ (if nat_le first k then None else value_of k ps)
  first_values least next first k [] h = sym (kept_none (nat_le first k) None refl)
  first_values least next first k (p ∷ ps) h =
      let rest = rest_of least next p ps h in
      values_step (nat_lt p.number first) (place_for first ps) next first k p ps refl rest (first_values (p.number + 1) next first k ps rest)

  -- what is left of them once the others are cut off
  pub cut_rises : (next first left : ℕ) (ps new : List (Place V)) → rises 0 ps next ≡ true → left ≡ place_for first ps → new ≡ take left ps → rises 0 new first ≡ true
  cut_rises next first left ps new h here cut =
      ap (λ l. rises 0 l first) (cut ∙ ap (λ n. take n ps) here) ∙ first_rises 0 next first ps h (omega arith)

  pub cut_values : (next first left k : ℕ) (ps new : List (Place V)) → rises 0 ps next ≡ true → left ≡ place_for first ps → new ≡ take left ps
      → value_of k new ≡ (if nat_le first k then None else value_of k ps)
  cut_values next first left k ps new h here cut = ap (λ l. value_of k l) (cut ∙ ap (λ n. take n ps) here) ∙ first_values 0 next first k ps h

pub for_none : {X : Type 0} (r : Option X) (P : Type 0) → r ≡ None → P → IfNone r P
for_none None P h p = p
for_none (Some x) P h p = absurd (none-some x (sym h))
