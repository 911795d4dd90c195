-- Counts over the sites' attachments and over the calls, where one of them changes.
use Rattle.std.proofs.Common.{◌≡◌, ◌≢◌, ℕ, zero, suc, ◌+◌, ◌<◌, ◌≤◌, Bool, true, false, cond, ◌||◌, List, [], ◌∷◌, Option, Some, if◌then◌else◌, ◌==◌, ◌⊎◌, refl, sym, ap, ◌∙◌, subst, arith, inl, inr, count_by, sum_by}
use Rattle.std.specs.List.{AllByRecursion, range_with_len}
use Rattle.std.proofs.lemmas.Bool.{cases_eq}
use Rattle.std.proofs.lemmas.Bool.Decides.{nat_tests}
use Rattle.std.proofs.lemmas.List.Sums.{sum_by-cons}
use Rattle.shm_model.specs.Memory.{is_segment}
use Rattle.shm_model.specs.History.{Numbered, has_call, is_call}
use Rattle.shm_laws.proofs.Call.Invariant.{is-call-same}

sum-same : (f g : ℕ → ℕ) (from n : ℕ) → ((t : ℕ) → from ≤ t → f t ≡ g t) → sum_by f (range_with_len from n) ≡ sum_by g (range_with_len from n)
sum-same f g from zero same = refl
sum-same f g from (suc n) same =
    let a = sum_by-cons f from (range_with_len (from + 1) n) in
    let b = sum_by-cons g from (range_with_len (from + 1) n) in
    let here = same from (omega arith) in
    let rest : sum_by f (range_with_len (from + 1) n) ≡ sum_by g (range_with_len (from + 1) n) = sum-same f g (from + 1) n (λ t above. same t (omega arith)) in
    omega arith

sum-changed-step : (f g : ℕ → ℕ) (s from n : ℕ) → from ≤ s → s < from + suc n → ((t : ℕ) → t ≢ s → f t ≡ g t) → (s ≡ from) ⊎ (s ≡ from → ⊥)
    → (from + 1 ≤ s → sum_by f (range_with_len (from + 1) n) + g s ≡ sum_by g (range_with_len (from + 1) n) + f s)
    → sum_by f (range_with_len from (suc n)) + g s ≡ sum_by g (range_with_len from (suc n)) + f s
sum-changed-step f g s from n low high same (inl here) later =
    let a = sum_by-cons f from (range_with_len (from + 1) n) in
    let b = sum_by-cons g from (range_with_len (from + 1) n) in
    let rest : sum_by f (range_with_len (from + 1) n) ≡ sum_by g (range_with_len (from + 1) n) =
    sum-same f g (from + 1) n (λ t above. same t (λ p. let q : t ≡ s = p in absurd (omega arith))) in
    let c = ap f here in
    let d = ap g here in
    omega arith
sum-changed-step f g s from n low high same (inr other) later =
    let a = sum_by-cons f from (range_with_len (from + 1) n) in
    let b = sum_by-cons g from (range_with_len (from + 1) n) in
    let here = same from (λ p. other (sym p)) in
    let above : from + 1 ≤ s = (let h : s ≢ from = other in omega arith) in
    let rest = later above in
    omega arith

-- a sum with one term changed
pub sum-changed : (f g : ℕ → ℕ) (s from n : ℕ) → from ≤ s → s < from + n → ((t : ℕ) → t ≢ s → f t ≡ g t)
    → sum_by f (range_with_len from n) + g s ≡ sum_by g (range_with_len from n) + f s
sum-changed f g s from zero low high same = absurd (omega arith)
sum-changed f g s from (suc n) low high same =
    sum-changed-step f g s from n low high same (cases_eq s from) (λ later. sum-changed f g s (from + 1) n later (omega arith) same)

-- one attachment that names the segment
abbrev pub one : Option ℕ → ℕ → ℕ
one x id = cond (is_segment x id) 1 0

abbrev pub named_at : (ℕ → ℕ → Option ℕ) → ℕ → ℕ → ℕ → ℕ
named_at f m id s = count_by (λ a. is_segment (f s a) id) (range_with_len 0 m)

abbrev pub named_in : (ℕ → ℕ → Option ℕ) → ℕ → ℕ → ℕ → ℕ
named_in f n m id = sum_by (named_at f m id) (range_with_len 0 n)

pub named-changed : (f g : ℕ → ℕ → Option ℕ) (n m s a id : ℕ) → s < n → a < m → ((t b : ℕ) → t ≢ s → f t b ≡ g t b) → ((b : ℕ) → b ≢ a → f s b ≡ g s b)
    → named_in f n m id + one (g s a) id ≡ named_in g n m id + one (f s a) id
named-changed f g n m s a id below within elsewhere besides =
    let inner : named_at f m id s + one (g s a) id ≡ named_at g m id s + one (f s a) id =
    sum-changed (λ b. one (f s b) id) (λ b. one (g s b) id) a 0 m (omega arith) (omega arith) (λ b other. ap (λ x. one x id) (besides b other)) in
    let outer : named_in f n m id + named_at g m id s ≡ named_in g n m id + named_at f m id s =
    sum-changed (named_at f m id) (named_at g m id) s 0 n (omega arith) (omega arith)
    (λ t other. sum-same (λ b. one (f t b) id) (λ b. one (g t b) id) 0 m (λ b above. ap (λ x. one x id) (elsewhere t b other))) in
    omega arith

pub named-same : (f g : ℕ → ℕ → Option ℕ) (n m id : ℕ) → ((t b : ℕ) → f t b ≡ g t b) → named_in f n m id ≡ named_in g n m id
named-same f g n m id same = sum-same (named_at f m id) (named_at g m id) 0 n (λ t above.
    sum-same (λ b. one (f t b) id) (λ b. one (g t b) id) 0 m (λ b more. ap (λ x. one x id) (same t b)))

-- an attachment that names the segment is counted
one-le-sum : (f : ℕ → ℕ) (s from n : ℕ) → from ≤ s → s < from + n → f s ≤ sum_by f (range_with_len from n)
one-le-sum f s from n low high =
    let h = sum-changed f (λ t. if t == s then 0 else f t) s from n low high (λ t other. at-other t other) in
    let k : (if s == s then 0 else f s) ≡ 0 = at-self in
    omega arith
  where
    at-self : (if s == s then 0 else f s) ≡ 0
    at-self = grind (arith, nat_tests)

    at-other : (t : ℕ) → t ≢ s → f t ≡ (if t == s then 0 else f t)
    at-other t other = grind (arith, nat_tests)

itself : (id : ℕ) → one (Some id) id ≡ 1
itself id = grind (arith, nat_tests)

pub named-counted : (f : ℕ → ℕ → Option ℕ) (n m s a id : ℕ) → s < n → a < m → f s a ≡ Some id → 0 < named_in f n m id
named-counted f n m s a id below within is =
    let inner = one-le-sum (λ b. one (f s b) id) a 0 m (omega arith) (omega arith) in
    let outer = one-le-sum (named_at f m id) s 0 n (omega arith) (omega arith) in
    let here : one (f s a) id ≡ 1 = ap (λ x. one x id) is ∙ itself id in
    omega arith

-- counts of calls
abbrev pub bit : Bool → ℕ
bit b = cond b 1 0

pub count-cons : {X : Type 0} (p : X → Bool) (x : X) (xs : List X) → count_by p (x ∷ xs) ≡ bit (p x) + count_by p xs
count-cons p x xs = sum_by-cons (λ y. bit (p y)) x xs

pub count-agree : {X : Type 0} (p q : X → Bool) (xs : List X) → AllByRecursion (λ x. p x ≡ q x) xs → count_by p xs ≡ count_by q xs
count-agree p q [] all = refl
count-agree p q (x ∷ xs) all =
    let a = count-cons p x xs in
    let b = count-cons q x xs in
    let here : bit (p x) ≡ bit (q x) = ap bit all.0 in
    let rest = count-agree p q xs all.1 in
    omega arith

-- each call stands in the list once
abbrev pub Distinct : List Numbered → Type 0
Distinct [] = Unit {0}
Distinct (c ∷ cs) = (has_call c.site c.number cs ≡ false) × Distinct cs

pub none-hit : (a b : Bool) → (a || b) ≡ false → (a ≡ false) × (b ≡ false)
none-hit true b h = cc
none-hit false b h = (refl, h)

others-only : (p q : Numbered → Bool) (s n : ℕ) (calls : List Numbered) → has_call s n calls ≡ false
    → AllByRecursion (λ c. is_call s n c ≡ false → q c ≡ p c) calls → AllByRecursion (λ c. q c ≡ p c) calls
others-only p q s n [] none all = tt
others-only p q s n (c ∷ cs) none all = let h = none-hit (is_call s n c) (has_call s n cs) none in (all.0 h.0, others-only p q s n cs h.1 all.1)

count-removed-step : (p q : Numbered → Bool) (s n : ℕ) (b : Bool) (c : Numbered) (cs : List Numbered) (hit : Bool) → is_call s n c ≡ hit
    → has_call c.site c.number cs ≡ false → (is_call s n c || has_call s n cs) ≡ true
    → (is_call s n c ≡ false → q c ≡ p c) → (is_call s n c ≡ true → (q c ≡ false) × (p c ≡ b))
    → (has_call s n cs ≡ true → count_by q cs + bit b ≡ count_by p cs) → (has_call s n cs ≡ false → count_by q cs ≡ count_by p cs)
    → count_by q (c ∷ cs) + bit b ≡ count_by p (c ∷ cs)
count-removed-step p q s n b c cs true is alone listed other here later same =
    let at = is-call-same s n c is in
    let none : has_call s n cs ≡ false = subst (λ x. has_call x n cs ≡ false) at.0 (subst (λ x. has_call c.site x cs ≡ false) at.1 alone) in
    let rest = same none in
    let x = count-cons p c cs in
    let y = count-cons q c cs in
    let first : bit (q c) ≡ 0 = ap bit (here is).0 in
    let second : bit (p c) ≡ bit b = ap bit (here is).1 in
    omega arith
count-removed-step p q s n b c cs false is alone listed other here later same =
    let there : has_call s n cs ≡ true = subst (λ z. (z || has_call s n cs) ≡ true) is listed in
    let rest = later there in
    let x = count-cons p c cs in
    let y = count-cons q c cs in
    let first : bit (q c) ≡ bit (p c) = ap bit (other is) in
    omega arith

-- one call no longer passes
pub count-removed : (p q : Numbered → Bool) (s n : ℕ) (b : Bool) (calls : List Numbered) → Distinct calls → has_call s n calls ≡ true
    → AllByRecursion (λ c. is_call s n c ≡ false → q c ≡ p c) calls → AllByRecursion (λ c. is_call s n c ≡ true → (q c ≡ false) × (p c ≡ b)) calls
    → count_by q calls + bit b ≡ count_by p calls
count-removed p q s n b [] distinct listed others here = cc
count-removed p q s n b (c ∷ cs) distinct listed others here =
    count-removed-step p q s n b c cs (is_call s n c) refl distinct.0 listed others.0 here.0
    (λ later. count-removed p q s n b cs distinct.1 later others.1 here.1)
    (λ none. count-agree q p cs (others-only p q s n cs none others.1))
