-- Two rising orders with the same parts are the same.
use Rattle.std.proofs.Common.{◌≡◌, ℕ, Bool, true, false, List, [], ◌∷◌, refl, sym, ap, ◌∙◌, arith, slice_get, if◌then◌else◌, ◌==◌}
use Rattle.std.specs.List.{AllPairs}
use Rattle.std.proofs.lemmas.Bool.Decides.{nat_tests}
use Rattle.shm_model.specs.Log.{Logged}
use Rattle.shm_model.specs.Merge.{IsBefore, IsMerged, SiteStep, part}
use Rattle.shm_laws.proofs.Log.Lists.{part-all, part-seam, rest-after, rest-rises}

abbrev SameParts : List SiteStep → List SiteStep → Type 0
SameParts xs ys = (s : ℕ) → part s xs ≡ part s ys

never-both : (p q : SiteStep) → IsBefore p q → IsBefore q p → ⊥
never-both p q h k = omega arith

-- a first step whose site isn't that of the other's first stands later in the other
stands-later : (x : SiteStep) (xs : List SiteStep) (y : SiteStep) (ys : List SiteStep) → SameParts (x ∷ xs) (y ∷ ys) → AllPairs IsBefore (y ∷ ys)
    → (y.site == x.site) ≡ false → IsBefore y x
stands-later x xs y ys same rises other =
    let parts = sym (part-seam [] x xs) ∙ same x.site ∙ ap (λ b. if b then y.logged ∷ part x.site ys else part x.site ys) other in
    part-all (IsBefore y) x.site ys (rest-after y ys rises) 0 x.logged (ap (λ ls. slice_get ls 0) (sym parts))

first-is : {X : Type 0} (x y : X) (xs ys : List X) → x ∷ xs ≡ y ∷ ys → x ≡ y
first-is x y xs ys h = cc

same-step : (s t : ℕ) (l m : Logged) → s ≡ t → l ≡ m → ◌≡◌ {A = SiteStep} (record { site = s; logged = l }) (record { site = t; logged = m })
same-step s t l m e h = cc

without-first : (x : Logged) (ls ms : List Logged) (b : Bool) → (if b then x ∷ ls else ls) ≡ (if b then x ∷ ms else ms) → ls ≡ ms
without-first x ls ms true h = cc
without-first x ls ms false h = h

rest-same : (x y : SiteStep) (xs ys : List SiteStep) → x ≡ y → SameParts (x ∷ xs) (y ∷ ys) → SameParts xs ys
rest-same x y xs ys e h s =
    without-first x.logged (part s xs) (part s ys) (x.site == s) (h s ∙ ap (λ z. if z.site == s then z.logged ∷ part s ys else part s ys) (sym e))

same-first : (x : SiteStep) (xs : List SiteStep) (y : SiteStep) (ys : List SiteStep) (one : Bool) → (x.site == y.site) ≡ one → SameParts (x ∷ xs) (y ∷ ys)
    → AllPairs IsBefore (x ∷ xs) → AllPairs IsBefore (y ∷ ys) → x ≡ y
same-first x xs y ys true at same rises rises' =
    let e : x.site ≡ y.site = grind (arith, nat_tests) in
    let parts = sym (part-seam [] x xs) ∙ same x.site ∙ ap (λ s. part s (y ∷ ys)) e ∙ part-seam [] y ys in
    same-step x.site y.site x.logged y.logged e (first-is x.logged y.logged (part x.site xs) (part y.site ys) parts)
same-first x xs y ys false at same rises rises' =
    let at' : (y.site == x.site) ≡ false = grind (arith, nat_tests) in
    absurd (never-both y x (stands-later x xs y ys same rises' at') (stands-later y ys x xs (λ s. sym (same s)) rises at))

nothing-else : (y : SiteStep) (ys : List SiteStep) → SameParts [] (y ∷ ys) → ⊥
nothing-else y ys h = let e : [] ≡ y.logged ∷ part y.site ys = h y.site ∙ part-seam [] y ys in cc

same-order : (xs ys : List SiteStep) → SameParts xs ys → AllPairs IsBefore xs → AllPairs IsBefore ys → xs ≡ ys
same-order [] [] h a b = refl
same-order [] (y ∷ ys) h a b = absurd (nothing-else y ys h)
same-order (x ∷ xs) [] h a b = absurd (nothing-else x xs (λ s. sym (h s)))
same-order (x ∷ xs) (y ∷ ys) h a b =
    let e : x ≡ y = same-first x xs y ys (x.site == y.site) refl h a b in
    ap (λ z. z ∷ xs) e ∙ ap (λ zs. y ∷ zs) (same-order xs ys (rest-same x y xs ys e h) (rest-rises x xs a) (rest-rises y ys b))

pub one-order : (logs : List (List Logged)) (xs ys : List SiteStep) → IsMerged logs xs → IsMerged logs ys → xs ≡ ys
one-order logs xs ys h k = same-order xs ys (λ s. h.parts s ∙ sym (k.parts s)) h.rises k.rises
