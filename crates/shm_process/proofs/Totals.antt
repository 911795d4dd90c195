-- What numbers come to over a list, where one of them falls and none rises; and what a search finds.
use Rattle.std.proofs.Common.{◌≡◌, ℕ, zero, suc, ◌+◌, ◌*◌, ◌<◌, ◌≤◌, Bool, true, false, List, [], ◌∷◌, Some, length, set, get_or, cond, refl, arith}
use Rattle.std.specs.List.{All, position_from, remove}
use Rattle.std.proofs.lemmas.List.Elements.{All-head, All-tail}
use Rattle.shm_process.proofs.Tests.{some_is}

abbrev pub total : {X : Type 0} → (X → ℕ) → List X → ℕ
total f [] = 0
total f (x ∷ xs) = f x + total f xs

module _ {X : Type 0} (f g : X → ℕ) (less : (x : X) → g x ≤ f x) where
  total-less : (xs : List X) → total g xs ≤ total f xs
  total-less [] = omega arith
  total-less (x ∷ xs) = let here = less x in let later = total-less xs in omega (arith, here, later)

  pub total-set : (xs : List X) (at : ℕ) (y d : X) → at < length xs → g y < f (get_or xs at d) → total g (set xs at y) < total f xs
  total-set [] at y d within fewer = absurd (omega (arith, within))
  total-set (x ∷ xs) zero y d within fewer = let later = total-less xs in omega (arith, fewer, later)
  total-set (x ∷ xs) (suc at) y d within fewer =
      let here = less x in
      let inside : at < length xs = omega (arith, within) in
      let later = total-set xs at y d inside fewer in omega (arith, here, later)

  pub total-remove : (xs : List X) (at : ℕ) (d : X) → at < length xs → 0 < f (get_or xs at d) → total g (remove xs at) < total f xs
  total-remove [] at d within some = absurd (omega (arith, within))
  total-remove (x ∷ xs) zero d within some = let later = total-less xs in omega (arith, some, later)
  total-remove (x ∷ xs) (suc at) d within some =
      let here = less x in
      let inside : at < length xs = omega (arith, within) in
      let later : total g (remove xs at) < total f xs = total-remove xs at d inside some in omega (arith, here, later)

-- each is at most m
pub total-most : {X : Type 0} (f : X → ℕ) (m : ℕ) (P : X → Type 0) → ((x : X) → P x → f x ≤ m) → (xs : List X) → All P xs → total f xs ≤ length xs * m
total-most f m P most [] all = omega arith
total-most f m P most (x ∷ xs) all =
    let here = most x (All-head P x xs all) in
    let later = total-most f m P most xs (All-tail P x xs all) in grind (arith, here, later)

-- where a search finds something
pub record Found {X : Type 0} (t : X → Bool) (xs : List X) (d : X) (from at : ℕ) : Type 0 where
  pub place : ℕ
  pub is : at ≡ from + place
  pub within : place < length xs
  pub passes : t (get_or xs place d) ≡ true

found-case : {X : Type 0} (t : X → Bool) (x : X) (xs : List X) (d : X) (from at : ℕ) (here : Bool) → t x ≡ here
    → (position_from t (from + 1) xs ≡ Some at → Found t xs d (from + 1) at)
    → cond here (Some from) (position_from t (from + 1) xs) ≡ Some at → Found t (x ∷ xs) d from at
found-case t x xs d from at true is later e =
    let same = some_is from at e in record { place = 0; is = omega (arith, same); within = omega arith; passes = is }
found-case t x xs d from at false is later e =
    let f = later e in
    let place = f.is in
    let inside = f.within in
    record { place = suc f.place; is = omega (arith, place); within = omega (arith, inside); passes = f.passes }

pub found_at : {X : Type 0} (t : X → Bool) (xs : List X) (d : X) (from at : ℕ) → position_from t from xs ≡ Some at → Found t xs d from at
found_at t [] d from at e = absurd (cc)
found_at t (x ∷ xs) d from at e = found-case t x xs d from at (t x) refl (found_at t xs d (from + 1) at) e
