-- The first elements of a list that was made from another.
use Rattle.std.proofs.Common.{◌≡◌, ◌∙◌, ℕ, ◌+◌, ◌<◌, ◌≤◌, List, [], ◌∷◌, ◌++◌, length, arith, get_or, map, take, ap, sym}
use Rattle.std.specs.List.{sum_by}
use Rattle.std.proofs.lemmas.List.{get_or-map, length-map, take_more}
use Rattle.std.proofs.lemmas.List.Sums.{sum_by_more, sum_by_more_le}

pub made : {X Y : Type 0} (g : X → Y) (xs : List X) (i : ℕ) (x : X) → i < length xs → x ≡ get_or xs i x → get_or (map g xs) i (g x) ≡ g x
made g xs i x below read = get_or-map g xs i x (g x) below ∙ ap g (sym read)

pub sum-more : {X Y : Type 0} (f : Y → ℕ) (g : X → Y) (xs : List X) (i : ℕ) (x : X) → i < length xs → x ≡ get_or xs i x
    → sum_by f (take (i + 1) (map g xs)) ≡ sum_by f (take i (map g xs)) + f (g x)
sum-more f g xs i x below read =
    sum_by_more f (map g xs) i (g x) (omega (arith, length-map xs g))
    ∙ ap (λ y. sum_by f (take i (map g xs)) + f y) (made g xs i x below read)

pub sum-within : {X Y : Type 0} (f : Y → ℕ) (g : X → Y) (xs : List X) (i : ℕ) (x : X) → i < length xs → x ≡ get_or xs i x
    → sum_by f (take i (map g xs)) + f (g x) ≤ sum_by f (map g xs)
sum-within f g xs i x below read =
    omega (arith, sum_by_more_le f (map g xs) i (g x) (omega (arith, length-map xs g)), ap f (made g xs i x below read))

pub take-push : {X Y : Type 0} (g : X → Y) (xs : List X) (i : ℕ) (x : X) → i < length xs → x ≡ get_or xs i x
    → take (i + 1) (map g xs) ≡ take i (map g xs) ++ g x ∷ []
take-push g xs i x below read =
    take_more (map g xs) i (g x) (omega (arith, length-map xs g)) ∙ ap (λ y. take i (map g xs) ++ y ∷ []) (made g xs i x below read)

pub pushed-same : {X : Type 0} (new old taken more : List X) (x y : X) → new ≡ old ++ x ∷ [] → old ≡ taken → x ≡ y → more ≡ taken ++ y ∷ [] → new ≡ more
pushed-same new old taken more x y pushed so-far same next = pushed ∙ ap (λ xs. xs ++ x ∷ []) so-far ∙ ap (λ z. taken ++ z ∷ []) same ∙ sym next

pub same-at : {X Y : Type 0} (f : X → Y) (y : Y) (p q : X) → y ≡ f p → p ≡ q → y ≡ f q
same-at f y p q at same = at ∙ ap f same
