-- What holds of each element of a list, and of those that a filter keeps.
use Rattle.std.proofs.Common.{◌≡◌, Bool, true, false, cond, ◌&&◌, List, [], ◌∷◌, ◌++◌, filter, refl, sym, ap, ◌∙◌}
use Rattle.std.specs.List.{AllByRecursion}
use Rattle.std.specs.Map.{keys_of, values_of}

pub all-push : {X : Type 0} (P : X → Type 0) (xs : List X) (x : X) → AllByRecursion P xs → P x → AllByRecursion P (xs ++ x ∷ [])
all-push P [] x h p = (p, h)
all-push P (y ∷ ys) x h p = (h.0, all-push P ys x h.1 p)

pub all-map : {X : Type 0} (P Q : X → Type 0) (xs : List X) → ((x : X) → P x → Q x) → AllByRecursion P xs → AllByRecursion Q xs
all-map P Q [] f h = h
all-map P Q (x ∷ xs) f h = (f x h.0, all-map P Q xs f h.1)

pub all-keys : {K X : Type 0} (P : K → Type 0) (es : List (K × X)) → AllByRecursion P (keys_of es) → AllByRecursion (λ e. P e.0) es
all-keys P [] h = h
all-keys P (e ∷ es) h = (h.0, all-keys P es h.1)

pub all-values : {K X : Type 0} (P : X → Type 0) (es : List (K × X)) → AllByRecursion (λ e. P e.1) es → AllByRecursion P (values_of es)
all-values P [] h = h
all-values P (e ∷ es) h = (h.0, all-values P es h.1)

pub all-filter : {X : Type 0} (P : X → Type 0) (keep : X → Bool) (xs : List X) → AllByRecursion P xs → AllByRecursion (λ x. P x × (keep x ≡ true)) (filter keep xs)
all-filter P keep [] h = h
all-filter P keep (x ∷ xs) h = by (keep x) refl (all-filter P keep xs h.1)
  where
    by : (b : Bool) → keep x ≡ b → AllByRecursion (λ y. P y × (keep y ≡ true)) (filter keep xs) → AllByRecursion (λ y. P y × (keep y ≡ true)) (cond b (x ∷ filter keep xs) (filter keep xs))
    by true e rest = ((h.0, e), rest)
    by false e rest = rest

pub filter-all : {X : Type 0} (keep : X → Bool) (xs : List X) → AllByRecursion (λ x. keep x ≡ true) xs → filter keep xs ≡ xs
filter-all keep [] h = refl
filter-all keep (x ∷ xs) h = ap (λ b. cond b (x ∷ filter keep xs) (filter keep xs)) h.0 ∙ ap (λ ys. x ∷ ys) (filter-all keep xs h.1)

pub filter-agree : {X : Type 0} (p q : X → Bool) (xs : List X) → AllByRecursion (λ x. p x ≡ q x) xs → filter p xs ≡ filter q xs
filter-agree p q [] h = refl
filter-agree p q (x ∷ xs) h = ap (λ b. cond b (x ∷ filter p xs) (filter p xs)) h.0 ∙ ap (λ ys. cond (q x) (x ∷ ys) ys) (filter-agree p q xs h.1)

pub values-filter : {K X : Type 0} (p : K × X → Bool) (q : X → Bool) (es : List (K × X)) → AllByRecursion (λ e. p e ≡ q e.1) es → values_of (filter p es) ≡ filter q (values_of es)
values-filter p q [] h = refl
values-filter p q (e ∷ es) h = ap (λ b. values_of (cond b (e ∷ filter p es) (filter p es))) h.0 ∙ by (q e.1) (values-filter p q es h.1)
  where
    by : (b : Bool) → values_of (filter p es) ≡ filter q (values_of es) → values_of (cond b (e ∷ filter p es) (filter p es)) ≡ cond b (e.1 ∷ filter q (values_of es)) (filter q (values_of es))
    by true rest = ap (λ ys. e.1 ∷ ys) rest
    by false rest = rest

-- a filter of a filter
pub filter-twice : {X : Type 0} (p q r : X → Bool) (xs : List X) → ((x : X) → r x ≡ (p x && q x)) → filter q (filter p xs) ≡ filter r xs
filter-twice p q r [] h = refl
filter-twice p q r (x ∷ xs) h = by (p x) (filter-twice p q r xs h) ∙ ap (λ b. cond b (x ∷ filter r xs) (filter r xs)) (sym (h x))
  where
    by : (b : Bool) → filter q (filter p xs) ≡ filter r xs → filter q (cond b (x ∷ filter p xs) (filter p xs)) ≡ cond (b && q x) (x ∷ filter r xs) (filter r xs)
    by true rest = ap (λ ys. cond (q x) (x ∷ ys) ys) rest
    by false rest = rest
