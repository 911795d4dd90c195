-- What the measure is made of: sums over the envelopes that aren't gone, and counts over all that were sent.
use Rattle.std.proofs.Common.{◌≡◌, ℕ, zero, suc, ◌+◌, ◌≤◌, Bool, true, false, ◌==◌, if◌then◌else◌, List, [], ◌∷◌, ◌++◌, Some, None, slice_get, sum_by, count_by, arith, refl, sym, ◌∙◌, ap}
use Rattle.std.proofs.lemmas.Bool.Decides.{nat_tests}
use Rattle.std.proofs.lemmas.Bool.{cond_both, cond-true, cond-false}
use Rattle.std.proofs.lemmas.List.Sums.{sum_by-cons, sum_by-append}
use Rattle.shm_model.specs.Basics.{at}
use Rattle.shm_model.specs.Message.{Envelope}
use Rattle.shm_laws.proofs.Page.Orders.{Each}
use Rattle.shm_progress.specs.Deliveries.{not_gone}

some-same : {X : Type 0} (x y : X) → Some x ≡ Some y → x ≡ y
some-same x y e = cc

none-some : {X : Type 0} (x : X) → None ≡ Some x → ⊥
none-some x e = cc

module _ (f : Envelope → ℕ) where
  abbrev sum-left : (ℕ → Bool) → ℕ → List Envelope → ℕ
  sum-left gone k es = sum_by f (not_gone gone k es)

  left-step : (gone : ℕ → Bool) (k : ℕ) (e : Envelope) (es : List Envelope) → gone k ≡ false → sum-left gone k (e ∷ es) ≡ f e + sum-left gone (k + 1) es
  left-step gone k e es h = ap (sum_by f) (cond-false (gone k) _ _ h) ∙ sum_by-cons f e (not_gone gone (k + 1) es)

  gone-step : (gone : ℕ → Bool) (k : ℕ) (e : Envelope) (es : List Envelope) → gone k ≡ true → sum-left gone k (e ∷ es) ≡ sum-left gone (k + 1) es
  gone-step gone k e es h = ap (sum_by f) (cond-true (gone k) _ _ h)

  abbrev Adds : (ℕ → Bool) → ℕ → List Envelope → List Envelope → Type 0
  Adds gone k es new = sum-left gone k (es ++ new) ≤ sum-left gone k es + sum_by f new

  -- at most everything is left
  pub left-small : (gone : ℕ → Bool) (k : ℕ) (es : List Envelope) → sum-left gone k es ≤ sum_by f es
  left-small gone k [] = omega arith
  left-small gone k (e ∷ es) =
      let rest : sum-left gone (k + 1) es ≤ sum_by f es = left-small gone (k + 1) es in
      let all : sum_by f (e ∷ es) ≡ f e + sum_by f es = sum_by-cons f e es in
      by-head (gone k) refl rest all
    where
      by-head : (b : Bool) → gone k ≡ b → sum-left gone (k + 1) es ≤ sum_by f es → sum_by f (e ∷ es) ≡ f e + sum_by f es → sum-left gone k (e ∷ es) ≤ sum_by f (e ∷ es)
      by-head true h rest all = let step = gone-step gone k e es h in omega (arith, step, rest, all)
      by-head false h rest all = let step = left-step gone k e es h in omega (arith, step, rest, all)

  -- what is sent anew adds at most all of it
  pub left-more : (gone : ℕ → Bool) (k : ℕ) (es new : List Envelope) → Adds gone k es new
  left-more gone k [] new = let h = left-small gone k new in omega (arith, h)
  left-more gone k (e ∷ es) new = by-head (gone k) refl (left-more gone (k + 1) es new)
    where
      by-head : (b : Bool) → gone k ≡ b → Adds gone (k + 1) es new → Adds gone k (e ∷ es) new
      by-head true h rest = let old = gone-step gone k e es h in let more = gone-step gone k e (es ++ new) h in omega (arith, old, more, rest)
      by-head false h rest = let old = left-step gone k e es h in let more = left-step gone k e (es ++ new) h in omega (arith, old, more, rest)

  -- where more is gone less is left
  left-fewer : (gone other : ℕ → Bool) (k : ℕ) (es : List Envelope) → ((j : ℕ) → gone j ≡ true → other j ≡ true) → sum-left other k es ≤ sum-left gone k es
  left-fewer gone other k [] more = omega arith
  left-fewer gone other k (e ∷ es) more = by-head (gone k) (other k) refl refl (left-fewer gone other (k + 1) es more)
    where
      by-head : (b c : Bool) → gone k ≡ b → other k ≡ c → sum-left other (k + 1) es ≤ sum-left gone (k + 1) es → sum-left other k (e ∷ es) ≤ sum-left gone k (e ∷ es)
      by-head true true h i rest = let old = gone-step gone k e es h in let new = gone-step other k e es i in omega (arith, old, new, rest)
      by-head true false h i rest = absurd (let t = more k h in cc)
      by-head false true h i rest = let old = left-step gone k e es h in let new = gone-step other k e es i in omega (arith, old, new, rest)
      by-head false false h i rest = let old = left-step gone k e es h in let new = left-step other k e es i in omega (arith, old, new, rest)

  at-more : (gone : ℕ → Bool) (n j : ℕ) → gone j ≡ true → at gone n true j ≡ true
  at-more gone n j h = cond_both (n == j) true (gone j) (λ b. b ≡ true) (λ e. refl) (λ e. h)

  -- an envelope that goes leaves its part less
  pub left-without : (gone : ℕ → Bool) (k j n : ℕ) (es : List Envelope) (e : Envelope) → slice_get es j ≡ Some e → n ≡ k + j → gone n ≡ false
      → sum-left (at gone n true) k es + f e ≤ sum-left gone k es
  left-without gone k j n [] e found is here = absurd (none-some e found)
  left-without gone k zero n (x ∷ xs) e found is here =
      let same : x ≡ e = some-same x e found in
      let value : f x ≡ f e = ap f same in
      let at_k : n ≡ k = omega arith in
      let gone_k : gone k ≡ false = ap gone (sym at_k) ∙ here in
      let old = left-step gone k x xs gone_k in
      let now : at gone n true k ≡ true = cond-true (n == k) true (gone k) (grind (arith, nat_tests)) in
      let new = gone-step (at gone n true) k x xs now in
      let rest = left-fewer gone (at gone n true) (k + 1) xs (at-more gone n) in
      omega (arith, old, new, rest, value)
  left-without gone k (suc j) n (x ∷ xs) e found is here =
      by-head (gone k) refl (left-without gone (k + 1) j n xs e found (omega arith) here)
    where
      other : at gone n true k ≡ gone k
      other = cond-false (n == k) true (gone k) (grind (arith, nat_tests))

      by-head : (b : Bool) → gone k ≡ b → sum-left (at gone n true) (k + 1) xs + f e ≤ sum-left gone (k + 1) xs → sum-left (at gone n true) k (x ∷ xs) + f e ≤ sum-left gone k (x ∷ xs)
      by-head true h rest = let old = gone-step gone k x xs h in let new = gone-step (at gone n true) k x xs (other ∙ h) in omega (arith, old, new, rest)
      by-head false h rest = let old = left-step gone k x xs h in let new = left-step (at gone n true) k x xs (other ∙ h) in omega (arith, old, new, rest)

-- counts
abbrev one-if : Bool → ℕ
one-if b = if b then 1 else 0

module _ {X : Type 0} (p q : X → Bool) where
  count-cons : (r : X → Bool) (x : X) (xs : List X) → count_by r (x ∷ xs) ≡ one-if (r x) + count_by r xs
  count-cons r x xs = sum_by-cons (λ y. one-if (r y)) x xs

  head-fewer : (b c : Bool) → (c ≡ true → b ≡ true) → one-if c ≤ one-if b
  head-fewer true true h = omega arith
  head-fewer true false h = omega arith
  head-fewer false true h = absurd (let t = h refl in cc)
  head-fewer false false h = omega arith

  pub count-fewer : (xs : List X) → ((x : X) → q x ≡ true → p x ≡ true) → count_by q xs ≤ count_by p xs
  count-fewer [] more = omega arith
  count-fewer (x ∷ xs) more =
      let old = count-cons p x xs in
      let new = count-cons q x xs in
      let rest = count-fewer xs more in
      let head = head-fewer (p x) (q x) (more x) in
      omega (arith, old, new, rest, head)

  pub count-less : (xs : List X) (k : ℕ) (x : X) → slice_get xs k ≡ Some x → ((y : X) → q y ≡ true → p y ≡ true) → p x ≡ true → q x ≡ false
      → count_by q xs + 1 ≤ count_by p xs
  count-less [] k x found more was isn = absurd (none-some x found)
  count-less (y ∷ ys) zero x found more was isn =
      let same : y ≡ x = some-same y x found in
      let old = count-cons p y ys in
      let new = count-cons q y ys in
      let rest = count-fewer ys more in
      let head : one-if (p y) ≡ 1 = cond-true (p y) 1 0 (ap p same ∙ was) in
      let after : one-if (q y) ≡ 0 = cond-false (q y) 1 0 (ap q same ∙ isn) in
      omega (arith, old, new, rest, head, after)
  count-less (y ∷ ys) (suc k) x found more was isn =
      let old = count-cons p y ys in
      let new = count-cons q y ys in
      let rest = count-less ys k x found more was isn in
      let head = head-fewer (p y) (q y) (more y) in
      omega (arith, old, new, rest, head)

  -- what fails the test adds nothing
  pub count-none : (xs new : List X) → Each (λ x. p x ≡ false) new → count_by p (xs ++ new) ≡ count_by p xs
  count-none xs new each = sum_by-append (λ y. one-if (p y)) xs new ∙ more (count_by p xs) (count_by p new) (none new each)
    where
      none : (new : List X) → Each (λ x. p x ≡ false) new → count_by p new ≡ 0
      none [] each = omega arith
      none (x ∷ xs) each =
          let head : one-if (p x) ≡ 0 = cond-false (p x) 1 0 each.0 in
          let rest = none xs each.1 in
          let all = count-cons p x xs in
          omega (arith, head, rest, all)

      more : (a b : ℕ) → b ≡ 0 → a + b ≡ a
      more a b e = omega arith
