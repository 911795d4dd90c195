-- What holds of all elements of a list, and of any two in their order: one element more, and one less.
use Rattle.std.proofs.Common.{suc, zero, List, [], ◌∷◌, ◌++◌, length, subst, arith, slice_index_or}
use Rattle.std.specs.List.{All, AllPairs}
use Rattle.std.proofs.lemmas.List.{get_or_append_left, length-append}
use Rattle.std.proofs.Math.Seq.{get_or-append_seam}

pub all-first : {X : Type 0} (P : X → Type 0) (x : X) (xs : List X) → All P (x ∷ xs) → P x
all-first P x xs h = h 0 x (omega arith)

pub all-rest : {X : Type 0} (P : X → Type 0) (x : X) (xs : List X) → All P (x ∷ xs) → All P xs
all-rest P x xs h j d b = h (suc j) d (omega arith)

pub all-none : {X : Type 0} (P : X → Type 0) → All P []
all-none P j d b = absurd (omega arith)

pub all-cons : {X : Type 0} (P : X → Type 0) (x : X) (xs : List X) → P x → All P xs → All P (x ∷ xs)
all-cons P x xs here rest zero d b = here
all-cons P x xs here rest (suc j) d b = rest j d (omega arith)

pub all-last : {X : Type 0} (P : X → Type 0) (xs : List X) (x : X) → All P (xs ++ x ∷ []) → P x
all-last P xs x h = subst P (get_or-append_seam xs x [] x) (h (length xs) x (omega (arith, length-append xs (x ∷ []))))

pub all-front : {X : Type 0} (P : X → Type 0) (xs ys : List X) → All P (xs ++ ys) → All P xs
all-front P xs ys h j d b = subst P (get_or_append_left xs ys d j b) (h j d (omega (arith, length-append xs ys)))

pub pairs-last : {X : Type 0} (R : X → X → Type 0) (xs : List X) (x : X) → AllPairs R (xs ++ x ∷ []) → All (λ q. R q x) xs
pairs-last R xs x h j d b =
    subst (λ q. R q x) (get_or_append_left xs (x ∷ []) d j b)
    (subst (R _) (get_or-append_seam xs x [] d) (h j (length xs) d b (omega (arith, length-append xs (x ∷ [])))))

pub pairs-front : {X : Type 0} (R : X → X → Type 0) (xs ys : List X) → AllPairs R (xs ++ ys) → AllPairs R xs
pairs-front R xs ys h i j d a b =
    subst (λ q. R q (slice_index_or xs j d)) (get_or_append_left xs ys d i (omega arith))
    (subst (R (slice_index_or (xs ++ ys) i d)) (get_or_append_left xs ys d j b) (h i j d a (omega (arith, length-append xs ys))))
