-- One element more of a list, or one changed.
use Rattle.std.proofs.Common.{◌≡◌, ◌⊎◌, ℕ, ◌+◌, ◌<◌, zero, suc, Bool, true, false, List, [], ◌∷◌, ◌++◌, Some, None, refl, sym, ap, ◌∙◌, arith, length, slice_get, slice_set, inl, inr, zero-add, take, get_or}
use Rattle.std.proofs.Math.Seq.{take-suc}
use Rattle.std.specs.Prelude.{count_by, map, sum_by, if◌then◌else◌}
use Rattle.std.proofs.lemmas.List.Sums.{sum_by-append}
use Rattle.std.proofs.lemmas.Option.{same_Some}

pub get-front : {X : Type 0} (xs zs : List X) (i : ℕ) (x : X) → slice_get xs i ≡ Some x → slice_get (xs ++ zs) i ≡ Some x
get-front [] zs i x h = cc
get-front (y ∷ xs) zs zero x h = h
get-front (y ∷ xs) zs (suc i) x h = get-front xs zs i x h

pub get-last : {X : Type 0} (xs : List X) (x : X) → slice_get (xs ++ x ∷ []) (length xs) ≡ Some x
get-last [] x = refl
get-last (y ∷ xs) x = get-last xs x

pub get-within : {X : Type 0} (xs : List X) (i : ℕ) → i < length xs → (x : X) × (slice_get xs i ≡ Some x)
get-within [] i h = absurd (omega arith)
get-within (x ∷ xs) zero h = (x, refl)
get-within (x ∷ xs) (suc i) h = get-within xs i (omega arith)

-- an element of a list and one more
pub get-cases : {X : Type 0} (xs : List X) (z : X) (i : ℕ) (x : X) → slice_get (xs ++ z ∷ []) i ≡ Some x → (slice_get xs i ≡ Some x) ⊎ ((i ≡ length xs) × (z ≡ x))
get-cases [] z zero x h = inr (refl, same_Some z x h)
get-cases [] z (suc i) x h = cc
get-cases (y ∷ xs) z zero x h = inl h
get-cases (y ∷ xs) z (suc i) x h = elim (get-cases xs z i x h) [ inl a ↦ inl a | inr b ↦ inr (ap suc b.0, b.1) ]

pub set-same : {X : Type 0} (xs : List X) (i : ℕ) (x z : X) → slice_get xs i ≡ Some x → slice_get (slice_set xs i z) i ≡ Some z
set-same [] i x z h = cc
set-same (y ∷ xs) zero x z h = refl
set-same (y ∷ xs) (suc i) x z h = set-same xs i x z h

-- an element of a list of which one was changed
pub set-cases : {X : Type 0} (xs : List X) (p : ℕ) (z : X) (i : ℕ) (x : X) → slice_get (slice_set xs p z) i ≡ Some x
    → ((i ≡ p) × (z ≡ x)) ⊎ ((i ≡ p → ⊥) × (slice_get xs i ≡ Some x))
set-cases [] p z i x h = cc
set-cases (y ∷ xs) zero z zero x h = inl (refl, same_Some z x h)
set-cases (y ∷ xs) zero z (suc i) x h = inr ((λ e. absurd (omega (arith, e))), h)
set-cases (y ∷ xs) (suc p) z zero x h = inr ((λ e. absurd (omega (arith, e))), h)
set-cases (y ∷ xs) (suc p) z (suc i) x h = elim (set-cases xs p z i x h) [ inl a ↦ inl (ap suc a.0, a.1) | inr b ↦ inr ((λ e. b.0 (omega (arith, e))), b.1) ]

-- one that stays where another is changed
pub set-other : {X : Type 0} (xs : List X) (p : ℕ) (z : X) (i : ℕ) (x : X) → (i ≡ p → ⊥) → slice_get xs i ≡ Some x → slice_get (slice_set xs p z) i ≡ Some x
set-other [] p z i x ne h = cc
set-other (y ∷ xs) zero z zero x ne h = absurd (ne refl)
set-other (y ∷ xs) zero z (suc i) x ne h = h
set-other (y ∷ xs) (suc p) z zero x ne h = h
set-other (y ∷ xs) (suc p) z (suc i) x ne h = set-other xs p z i x (λ e. ne (ap suc e)) h

pub sum-cons : {X : Type 0} (f : X → ℕ) (x : X) (xs : List X) → sum_by f (x ∷ xs) ≡ f x + sum_by f xs
sum-cons f x xs = sum_by-append f (x ∷ []) xs ∙ ap (λ n. n + sum_by f xs) (zero-add (f x))

pub sum-push : {X : Type 0} (f : X → ℕ) (xs : List X) (x : X) → sum_by f (xs ++ x ∷ []) ≡ sum_by f xs + f x
sum-push f xs x = sum_by-append f xs (x ∷ []) ∙ ap (λ n. sum_by f xs + n) (zero-add (f x))

-- one term grows by one
pub sum-raise : {X : Type 0} (f : X → ℕ) (xs : List X) (i : ℕ) (x z : X) → slice_get xs i ≡ Some x → f z ≡ f x + 1 → sum_by f (slice_set xs i z) ≡ sum_by f xs + 1
sum-raise f [] i x z h e = cc
sum-raise f (y ∷ xs) zero x z h e = let s : y ≡ x = same_Some y x h in omega (arith, sum-cons f z xs, sum-cons f y xs, ap f s, e)
sum-raise f (y ∷ xs) (suc i) x z h e = omega (arith, sum-cons f y (slice_set xs i z), sum-cons f y xs, sum-raise f xs i x z h e)

pub count-yes : {X : Type 0} (p : X → Bool) (xs : List X) (x : X) → p x ≡ true → count_by p (xs ++ x ∷ []) ≡ count_by p xs + 1
count-yes p xs x h = sum-push (λ x. if p x then 1 else 0) xs x ∙ ap (λ (b : Bool). count_by p xs + (if b then 1 else 0)) h

pub count-no : {X : Type 0} (p : X → Bool) (xs : List X) (x : X) → p x ≡ false → count_by p (xs ++ x ∷ []) ≡ count_by p xs
count-no p xs x h = sum-push (λ x. if p x then 1 else 0) xs x ∙ ap (λ (b : Bool). count_by p xs + (if b then 1 else 0)) h ∙ omega arith

-- none passes
pub count-none : {X : Type 0} (p : X → Bool) (xs : List X) → ((i : ℕ) (x : X) → slice_get xs i ≡ Some x → p x ≡ false) → count_by p xs ≡ 0
count-none p [] none = refl
count-none p (x ∷ xs) none =
    let first : p x ≡ false = none 0 x refl in
    sum-cons (λ x. if p x then 1 else 0) x xs ∙ ap (λ (b : Bool). (if b then 1 else 0) + count_by p xs) first
    ∙ ap (λ n. 0 + n) (count-none p xs (λ i y h. none (suc i) y h))

pub long-map : {X Y : Type 0} (f : X → Y) (xs : List X) → length (map f xs) ≡ length xs
long-map f [] = refl
long-map f (x ∷ xs) = ap suc (long-map f xs)

pub take-next : {X : Type 0} (xs : List X) (i : ℕ) (d : X) → i < length xs → take (i + 1) xs ≡ take i xs ++ get_or xs i d ∷ []
take-next xs i d h = let e : i + 1 ≡ suc i = omega arith in ap (λ n. take n xs) e ∙ take-suc xs i d h
