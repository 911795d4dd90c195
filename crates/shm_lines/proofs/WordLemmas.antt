-- The words that blanks leave.
use Rattle.std.proofs.Common.{◌≡◌, ℕ, ◌+◌, ◌<◌, Bool, true, false, List, [], ◌∷◌, ◌++◌, length, All, ◌⊎◌, inl, inr, refl, sym, ap, ◌∙◌, take, drop, get_or, take-append-drop}
use Rattle.std.specs.List.{slice_split, onto_first}
use Rattle.std.proofs.lemmas.Bool.{cases_Bool}
use Rattle.std.proofs.lemmas.List.Splits.{slice_split-cons_yes, slice_split-cons_no, slice_split_at}
use Rattle.std.proofs.lemmas.List.{drop_more}
use Rattle.shm_lines.specs.Words.{is_end}

-- the first part ends at a place where the test passes
pub slice_split-read : (p : ℕ → Bool) (xs : List ℕ) (i y : ℕ) → i < length xs → y ≡ get_or xs i y → p y ≡ true → All (λ x. p x ≡ false) (take i xs)
    → slice_split p xs ≡ take i xs ∷ slice_split p (drop (i + 1) xs)
slice_split-read p xs i y lt read e h =
    let cut : xs ≡ take i xs ++ y ∷ drop (i + 1) xs =
    sym (take-append-drop i xs) ∙ ap (λ zs. take i xs ++ zs) (drop_more xs i y lt ∙ ap (λ z. z ∷ drop (i + 1) xs) (sym read)) in
    ap (slice_split p) cut ∙ slice_split_at p (take i xs) y (drop (i + 1) xs) h e

is_end-onto : (x : ℕ) (words : List (List ℕ)) → is_end (onto_first x words) ≡ false
is_end-onto x [] = refl
is_end-onto x (word ∷ words) = refl

-- there is a first part, be it the empty one
pub is_end-parts : (p : ℕ → Bool) (xs : List ℕ) → is_end (slice_split p xs) ≡ false
is_end-parts p [] = refl
is_end-parts p (x ∷ xs) = go (cases_Bool (p x))
  where
    go : (p x ≡ true) ⊎ (p x ≡ false) → is_end (slice_split p (x ∷ xs)) ≡ false
    go (inl e) = ap is_end (slice_split-cons_yes p x xs e)
    go (inr e) = ap is_end (slice_split-cons_no p x xs e) ∙ is_end-onto x (slice_split p xs)
