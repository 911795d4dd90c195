-- The scripts that are kept, and the logs, one more after the other.
use Rattle.std.proofs.Common.{◌≡◌, ◌∙◌, ℕ, ◌+◌, ◌<◌, ◌≤◌, List, [], ◌∷◌, ◌++◌, map, Option, None, Some, append_assoc, append-nil, ap, get_or, length, length-take-le, refl, subst, sym, take, arith}
use Rattle.std.proofs.lemmas.List.{map-append, take_all, take_more}
use Rattle.shm_prompt.specs.Saves.{Adds, Save, Whole}
use Rattle.shm_simulate.specs.declared.outcome.Outcome.{Outcome}
use Rattle.shm_command.specs.Kept.{kept, name_of_outcome, script_of_outcome, AddsAll}

pub adds_none : (old : Option (List Save)) → AddsAll old old []
adds_none None = tt
adds_none (Some before) = sym (append-nil before)

-- ---- one save more

pub adds_more : (old mid new : Option (List Save)) (saves : List Save) (save : Save) → AddsAll old mid saves → Adds mid new save → AddsAll old new (saves ++ save ∷ [])
adds_more None mid new saves save all one = tt
adds_more (Some before) None new saves save all one = absurd all
adds_more (Some before) (Some between) None saves save all one = absurd one
adds_more (Some before) (Some between) (Some now) saves save all one =
    one ∙ ap (λ l. l ++ save ∷ []) all ∙ append_assoc before saves (save ∷ [])

-- of things that are saved so the next one is
pub one_more : {X : Type 0} (f : X → Save) (xs : List X) (at : ℕ) (x : X) (old mid new : Option (List Save)) → at < length xs → x ≡ get_or xs at x
    → AddsAll old mid (map f (take at xs)) → Adds mid new (f x) → AddsAll old new (map f (take (at + 1) xs))
one_more f xs at x old mid new below here before one =
    let longer : take (at + 1) xs ≡ take at xs ++ x ∷ [] = take_more xs at x below ∙ ap (λ y. take at xs ++ y ∷ []) (sym here) in
    subst (AddsAll old new) (sym (ap (map f) longer ∙ map-append f (take at xs) (x ∷ []))) (adds_more old mid new (map f (take at xs)) (f x) before one)

-- all are
pub all_more : {X : Type 0} (f : X → Save) (xs : List X) (at : ℕ) (old new : Option (List Save)) → length xs ≤ at → AddsAll old new (map f (take at xs))
    → AddsAll old new (map f xs)
all_more f xs at old new all before = subst (λ ys. AddsAll old new (map f ys)) (take_all at xs all) before

pub kept-append : (folder : List ℕ) (sites pages number : ℕ) (outcomes : List Outcome) (outcome : Outcome)
    → kept folder sites pages number (outcomes ++ outcome ∷ [])
    ≡ kept folder sites pages number outcomes
    ++ Whole (name_of_outcome folder (number + length outcomes)) (script_of_outcome sites pages outcome) ∷ []
kept-append folder sites pages number [] outcome =
    let same : number ≡ number + 0 = omega arith in
    ap (λ place. Whole (name_of_outcome folder place) (script_of_outcome sites pages outcome) ∷ []) same
kept-append folder sites pages number (first ∷ outcomes) outcome =
    let same : number + 1 + length outcomes ≡ number + length (first ∷ outcomes) = omega arith in
    ap (λ saves. Whole (name_of_outcome folder number) (script_of_outcome sites pages first) ∷ saves)
    (kept-append folder sites pages (number + 1) outcomes outcome
    ∙ ap (λ place. kept folder sites pages (number + 1) outcomes ++ Whole (name_of_outcome folder place) (script_of_outcome sites pages outcome) ∷ []) same)

-- the next outcome is saved
pub one_kept : (folder : List ℕ) (sites pages : ℕ) (outcomes : List Outcome) (place : ℕ) (outcome : Outcome) (old mid new : Option (List Save))
    → place < length outcomes → outcome ≡ get_or outcomes place outcome
    → AddsAll old mid (kept folder sites pages 1 (take place outcomes))
    → Adds mid new (Whole (name_of_outcome folder (place + 1)) (script_of_outcome sites pages outcome))
    → AddsAll old new (kept folder sites pages 1 (take (place + 1) outcomes))
one_kept folder sites pages outcomes place outcome old mid new below here before one =
    let within : place ≤ length outcomes = omega (arith, below) in
    let number : place + 1 ≡ 1 + length (take place outcomes) = omega (arith, length-take-le place outcomes within) in
    let next : Adds mid new (Whole (name_of_outcome folder (1 + length (take place outcomes))) (script_of_outcome sites pages outcome)) =
    subst (λ n. Adds mid new (Whole (name_of_outcome folder n) (script_of_outcome sites pages outcome))) number one in
    let longer : take (place + 1) outcomes ≡ take place outcomes ++ outcome ∷ [] =
    take_more outcomes place outcome below ∙ ap (λ x. take place outcomes ++ x ∷ []) (sym here) in
    subst (λ xs. AddsAll old new (kept folder sites pages 1 xs)) (sym longer)
    (subst (AddsAll old new) (sym (kept-append folder sites pages 1 (take place outcomes) outcome))
    (adds_more old mid new (kept folder sites pages 1 (take place outcomes))
    (Whole (name_of_outcome folder (1 + length (take place outcomes))) (script_of_outcome sites pages outcome)) before next))

-- all are
pub all_kept : (folder : List ℕ) (sites pages : ℕ) (outcomes : List Outcome) (place : ℕ) (old new : Option (List Save)) → length outcomes ≤ place
    → AddsAll old new (kept folder sites pages 1 (take place outcomes)) → AddsAll old new (kept folder sites pages 1 outcomes)
all_kept folder sites pages outcomes place old new all before =
    subst (λ xs. AddsAll old new (kept folder sites pages 1 xs)) (take_all place outcomes all) before
