-- Lists: what holds of each element, and what is found, kept or counted among them.
use Rattle.std.proofs.Common.{◌≡◌, Bool, true, false, cond, ◌&&◌, List, [], ◌∷◌, ◌++◌, map, filter, find, count_by, length, Option, Some, refl, sym, ap, ◌∙◌, subst, Contains}
use Rattle.std.specs.List.{AllByRecursion}
use Rattle.std.proofs.lemmas.List.Elements.{All-contains, All-from_recursion}
use Rattle.std.proofs.lemmas.List.Sums.{length-filter}

pub every : {X : Type 0} (P : X → Type 0) → ((x : X) → P x) → (xs : List X) → AllByRecursion P xs
every P holds [] = tt
every P holds (x ∷ xs) = (holds x, every P holds xs)

find-passes-step : {X : Type 0} (b : Bool) (p : X → Bool) (y : X) (ys : List X) (x : X) → p y ≡ b → cond b (Some y) (find p ys) ≡ Some x
    → (find p ys ≡ Some x → p x ≡ true) → p x ≡ true
find-passes-step true p y ys x passes found later = let h : y ≡ x = cc in subst (λ z. p z ≡ true) h passes
find-passes-step false p y ys x passes found later = later found

pub find-passes : {X : Type 0} (p : X → Bool) (xs : List X) (x : X) → find p xs ≡ Some x → p x ≡ true
find-passes p [] x found = cc
find-passes p (y ∷ ys) x found = find-passes-step (p y) p y ys x refl found (find-passes p ys x)

pub every-push : {X : Type 0} (P : X → Type 0) (xs : List X) (x : X) → AllByRecursion P xs → P x → AllByRecursion P (xs ++ (x ∷ []))
every-push P [] x all here = (here, tt)
every-push P (y ∷ ys) x all here = (all.0, every-push P ys x all.1 here)

pub every-map : {X Y : Type 0} (P : Y → Type 0) (f : X → Y) (xs : List X) → AllByRecursion (λ x. P (f x)) xs → AllByRecursion P (map f xs)
every-map P f [] all = tt
every-map P f (x ∷ xs) all = (all.0, every-map P f xs all.1)

pub every-weaker : {X : Type 0} (P Q : X → Type 0) → ((x : X) → P x → Q x) → (xs : List X) → AllByRecursion P xs → AllByRecursion Q xs
every-weaker P Q weaker [] all = tt
every-weaker P Q weaker (x ∷ xs) all = (weaker x all.0, every-weaker P Q weaker xs all.1)

pub every-contains : {X : Type 0} (P : X → Type 0) (xs : List X) (x : X) → AllByRecursion P xs → Contains xs x → P x
every-contains P xs x all found = All-contains P xs x (All-from_recursion P xs all) found

found-holds-step : {X : Type 0} (P : X → Type 0) (b : Bool) (x : X) (rest : Option X) (g : X) → cond b (Some x) rest ≡ Some g → P x → (rest ≡ Some g → P g) → P g
found-holds-step P true x rest g found here later = let same : x ≡ g = cc in subst P same here
found-holds-step P false x rest g found here later = later found

-- what holds of each element holds of the one that is found
pub found-holds : {X : Type 0} (P : X → Type 0) (p : X → Bool) (xs : List X) (g : X) → AllByRecursion P xs → find p xs ≡ Some g → P g
found-holds P p [] g all found = cc
found-holds P p (x ∷ xs) g all found = found-holds-step P (p x) x (find p xs) g found all.0 (found-holds P p xs g all.1)

find-filter-step : {X : Type 0} (a b : Bool) (x : X) (p : X → Bool) (kept : List X) (rest : Option X) → p x ≡ a → (a ≡ true → b ≡ true)
    → find p kept ≡ rest → find p (cond b (x ∷ kept) kept) ≡ cond a (Some x) rest
find-filter-step true true x p kept rest passes keeps same = rw passes
find-filter-step true false x p kept rest passes keeps same = cc (keeps refl)
find-filter-step false true x p kept rest passes keeps same = rw passes same
find-filter-step false false x p kept rest passes keeps same = same

-- what is found by a test that only kept elements pass is found among them
pub find-filter : {X : Type 0} (p q : X → Bool) (xs : List X) → AllByRecursion (λ x. p x ≡ true → q x ≡ true) xs → find p (filter q xs) ≡ find p xs
find-filter p q [] kept = refl
find-filter p q (x ∷ xs) kept = find-filter-step (p x) (q x) x p (filter q xs) (find p xs) refl kept.0 (find-filter p q xs kept.1)

filter-filter-step : {X : Type 0} (a b : Bool) (x : X) (p : X → Bool) (kept rest : List X) → p x ≡ a → (a ≡ true → b ≡ true)
    → filter p kept ≡ rest → filter p (cond b (x ∷ kept) kept) ≡ cond a (x ∷ rest) rest
filter-filter-step true true x p kept rest passes keeps same = rw (passes, same)
filter-filter-step true false x p kept rest passes keeps same = cc (keeps refl)
filter-filter-step false true x p kept rest passes keeps same = rw passes same
filter-filter-step false false x p kept rest passes keeps same = same

pub filter-filter : {X : Type 0} (p q : X → Bool) → ((x : X) → p x ≡ true → q x ≡ true) → (xs : List X) → filter p (filter q xs) ≡ filter p xs
filter-filter p q keeps [] = refl
filter-filter p q keeps (x ∷ xs) = filter-filter-step (p x) (q x) x p (filter q xs) (filter p xs) refl (keeps x) (filter-filter p q keeps xs)

-- what is counted by a test that only kept elements pass is counted among them
pub count-filter : {X : Type 0} (p q : X → Bool) → ((x : X) → p x ≡ true → q x ≡ true) → (xs : List X) → count_by p (filter q xs) ≡ count_by p xs
count-filter p q keeps xs = sym (length-filter p (filter q xs)) ∙ (ap length (filter-filter p q keeps xs) ∙ length-filter p xs)

pub left-true : (a b : Bool) → (a && b) ≡ true → a ≡ true
left-true true b h = refl
left-true false b h = h

filter-map-step : {X : Type 0} (a b : Bool) (y : X) (f : X → X) (x : X) (kept : List X) → a ≡ b → f x ≡ y
    → cond a (y ∷ map f kept) (map f kept) ≡ map f (cond b (x ∷ kept) kept)
filter-map-step true true y f x kept same is = rw is
filter-map-step true false y f x kept same is = cc
filter-map-step false true y f x kept same is = cc
filter-map-step false false y f x kept same is = refl

-- a change that keeps the test of each element
pub filter-map : {X : Type 0} (q : X → Bool) (f : X → X) → ((x : X) → q (f x) ≡ q x) → (xs : List X) → filter q (map f xs) ≡ map f (filter q xs)
filter-map q f same [] = refl
filter-map q f same (x ∷ xs) = rw (filter-map q f same xs) (filter-map-step (q (f x)) (q x) (f x) f x (filter q xs) (same x) refl)

-- a change of elements that aren't kept
map-filter-step : {X : Type 0} (b : Bool) (f : X → X) (x : X) (kept : List X) → (b ≡ true → f x ≡ x) → map f kept ≡ kept
    → map f (cond b (x ∷ kept) kept) ≡ cond b (x ∷ kept) kept
map-filter-step true f x kept still same = rw (still refl, same)
map-filter-step false f x kept still same = same

pub map-filter : {X : Type 0} (q : X → Bool) (f : X → X) → ((x : X) → q x ≡ true → f x ≡ x) → (xs : List X) → map f (filter q xs) ≡ filter q xs
map-filter q f still [] = refl
map-filter q f still (x ∷ xs) = map-filter-step (q x) f x (filter q xs) (still x) (map-filter q f still xs)
