-- Identifiers are never given again, and a call moves a segment's count of attachments as it moves who holds the segment.
use Rattle.std.proofs.Common.{◌≡◌, ℕ, ◌+◌, ◌*◌, ◌<◌, ◌≤◌, Bool, true, false, cond, List, [], ◌∷◌, ◌++◌, map, filter, find, length, Option, Some, None, if◌then◌else◌, ◌==◌, ◌⊎◌, refl, sym, ap, ◌∙◌, subst, arith, inl, inr, mul-le-mul_right}
use Rattle.std.specs.List.{AllByRecursion}
use Rattle.std.proofs.lemmas.Bool.{cases_eq}
use Rattle.std.proofs.lemmas.Bool.Decides.{nat_tests}
use Rattle.std.proofs.lemmas.List.{length-map}
use Rattle.std.proofs.lemmas.List.Sums.{length-filter, sum_by_push}
use Rattle.std.proofs.lemmas.Nat.{mod-mul-add}
use Rattle.shm_place.specs.Home.{home_of_id}
use Rattle.shm_model.specs.Permission.{Segment, destroyed}
use Rattle.shm_model.specs.Kernel.{Called, is_at, made_at, next_id, replaced, with_id}
use Rattle.shm_model.specs.declared.call.Op.{Op}
use Rattle.shm_laws.proofs.Kernel.Parts.{found-id}
use Rattle.shm_laws.proofs.Kernel.Effect.{Effect, changed, every-replaced, kept, made}
use Rattle.shm_laws.proofs.Kernel.Lists.{every-push, every-weaker, filter-map, found-holds}

-- an identifier of its home that was given
abbrev pub IsGiven : ℕ → List Segment → Segment → Type 0
IsGiven sites segments g = g.id < next_id sites (home_of_id sites g.id) segments

more-made : (sites k : ℕ) (segments : List Segment) (new : Segment) → made_at sites k segments ≤ made_at sites k (segments ++ (new ∷ []))
more-made sites k segments new = let h = sum_by_push (λ g. cond (is_at sites k g) 1 0) segments new in omega arith

next-grows : (sites k : ℕ) (segments : List Segment) (new : Segment) → next_id sites k segments ≤ next_id sites k (segments ++ (new ∷ []))
next-grows sites k segments new = let h = mul-le-mul_right sites (more-made sites k segments new) in omega arith

is-here : (sites h : ℕ) (new : Segment) → home_of_id sites new.id ≡ h → is_at sites h new ≡ true
is-here sites h new at = grind (arith, nat_tests)

-- the new segment is counted at its home
made-more : (sites h : ℕ) (segments : List Segment) (new : Segment) → home_of_id sites new.id ≡ h → made_at sites h (segments ++ (new ∷ [])) ≡ made_at sites h segments + 1
made-more sites h segments new at =
    sum_by_push (λ g. cond (is_at sites h g) 1 0) segments new ∙ ap (λ b. made_at sites h segments + cond b 1 0) (is-here sites h new at)

new-given : (sites h : ℕ) → h < sites → (segments : List Segment) (new : Segment) → new.id ≡ next_id sites h segments → IsGiven sites (segments ++ (new ∷ [])) new
new-given sites h below segments new is =
    let at : home_of_id sites new.id ≡ h = ap (home_of_id sites) is ∙ mod-mul-add (made_at sites h segments) sites h below in
    let more : made_at sites h (segments ++ (new ∷ [])) ≡ made_at sites h segments + 1 = made-more sites h segments new at in
    let next : next_id sites h (segments ++ (new ∷ [])) ≡ (made_at sites h segments + 1) * sites + h = ap (λ x. x * sites + h) more in
    subst (λ k. new.id < next_id sites k (segments ++ (new ∷ []))) (sym at) (omega arith)

same-id-at : (sites k id : ℕ) (new g : Segment) → new.id ≡ id → is_at sites k (if id == g.id then new else g) ≡ is_at sites k g
same-id-at sites k id new g same = let h : (if id == g.id then new else g).id ≡ g.id = grind (arith, nat_tests) in ap (λ i. home_of_id sites i == k) h

made-same : (sites k id : ℕ) (new : Segment) (segments : List Segment) → new.id ≡ id → made_at sites k (replaced id new segments) ≡ made_at sites k segments
made-same sites k id new segments same =
    sym (length-filter (is_at sites k) (replaced id new segments))
    ∙ (ap length (filter-map (is_at sites k) (λ g. if id == g.id then new else g) (λ g. same-id-at sites k id new g same) segments)
    ∙ (length-map (filter (is_at sites k) segments) (λ g. if id == g.id then new else g) ∙ length-filter (is_at sites k) segments))

-- every identifier was given
pub given-after : (sites home : ℕ) → home < sites → (op : Op) (segments : List Segment) (done : Called) → Effect sites home op segments done
    → AllByRecursion (IsGiven sites segments) segments → AllByRecursion (IsGiven sites done.segments) done.segments
given-after sites home below op segments done (kept reply none) all = all
given-after sites home below op segments done (made reply new is) all =
    every-push (IsGiven sites (segments ++ (new ∷ []))) segments new
    (every-weaker _ _ (λ g given. let h = next-grows sites (home_of_id sites g.id) segments new in omega arith) segments all)
    (new-given sites home below segments new is.id)
given-after sites home below op segments done (changed reply id old new found alive change) all =
    let given : IsGiven sites segments old = found-holds (IsGiven sites segments) (λ g. id == g.id) segments old all found in
    let same : old.id ≡ new.id = found-id id segments old found ∙ sym change.same_id in
    every-weaker (IsGiven sites segments) _ (λ g h. subst (λ m. g.id < m * sites + home_of_id sites g.id) (sym (made-same sites (home_of_id sites g.id) id new segments change.same_id)) h)
    (replaced id new segments)
    (every-replaced (IsGiven sites segments) id new segments (subst (λ i. i < next_id sites (home_of_id sites i) segments) same given) all)

find-none : {X : Type 0} (p : X → Bool) (xs : List X) → AllByRecursion (λ x. p x ≡ false) xs → find p xs ≡ None
find-none p [] all = refl
find-none p (x ∷ xs) all = rw all.0 (find-none p xs all.1)

not-next : (sites h : ℕ) → h < sites → (segments : List Segment) (g : Segment) → IsGiven sites segments g → (next_id sites h segments == g.id) ≡ false
not-next sites h below segments g given = not-next-at (cases_eq (next_id sites h segments) g.id)
  where
    not-next-at : (next_id sites h segments ≡ g.id) ⊎ (next_id sites h segments ≡ g.id → ⊥) → (next_id sites h segments == g.id) ≡ false
    not-next-at (inl same) =
        let at : home_of_id sites g.id ≡ h = sym (ap (home_of_id sites) same) ∙ mod-mul-add (made_at sites h segments) sites h below in
        let low : g.id < next_id sites h segments = subst (λ k. g.id < next_id sites k segments) at given in
        absurd (omega arith)
    not-next-at (inr other) = grind (arith, nat_tests)

-- the next identifier has no segment
pub next-absent : (sites h : ℕ) → h < sites → (segments : List Segment) → AllByRecursion (IsGiven sites segments) segments → with_id (next_id sites h segments) segments ≡ None
next-absent sites h below segments all = find-none _ segments (every-weaker _ _ (λ g given. not-next sites h below segments g given) segments all)

-- what is found stays, changed where it was changed
find-push-step : {X : Type 0} (p : X → Bool) (b : Bool) (x : X) (rest more : Option X) (g : X) → cond b (Some x) rest ≡ Some g → (rest ≡ Some g → more ≡ Some g) → cond b (Some x) more ≡ Some g
find-push-step p true x rest more g found later = found
find-push-step p false x rest more g found later = later found

find-push : {X : Type 0} (p : X → Bool) (xs : List X) (y g : X) → find p xs ≡ Some g → find p (xs ++ (y ∷ [])) ≡ Some g
find-push p [] y g found = cc
find-push p (x ∷ xs) y g found = find-push-step p (p x) x (find p xs) (find p (xs ++ (y ∷ []))) g found (find-push p xs y g)

find-map-step : {X : Type 0} (b c : Bool) (f : X → X) (x : X) (rest more : Option X) (g : X) → c ≡ b → cond b (Some x) rest ≡ Some g → (rest ≡ Some g → more ≡ Some (f g)) → cond c (Some (f x)) more ≡ Some (f g)
find-map-step true true f x rest more g same found later = let h : x ≡ g = cc in ap (λ y. Some (f y)) h
find-map-step true false f x rest more g same found later = cc
find-map-step false true f x rest more g same found later = cc
find-map-step false false f x rest more g same found later = later found

find-map : {X : Type 0} (p : X → Bool) (f : X → X) → ((x : X) → p (f x) ≡ p x) → (xs : List X) (g : X) → find p xs ≡ Some g → find p (map f xs) ≡ Some (f g)
find-map p f same [] g found = cc
find-map p f same (x ∷ xs) g found = find-map-step (p x) (p (f x)) f x (find p xs) (find p (map f xs)) g (same x) found (find-map p f same xs g)

pub found-replaced : (i id : ℕ) (new : Segment) (segments : List Segment) (g : Segment) → new.id ≡ id → with_id i segments ≡ Some g
    → with_id i (replaced id new segments) ≡ Some (if id == g.id then new else g)
found-replaced i id new segments g same found =
    find-map (λ x. i == x.id) (λ x. if id == x.id then new else x) (λ x. let h : (if id == x.id then new else x).id ≡ x.id = grind (arith, nat_tests) in ap (λ k. i == k) h) segments g found

same-found : (k : ℕ) (xs : List Segment) (x y : Segment) → with_id k xs ≡ Some x → with_id k xs ≡ Some y → x ≡ y
same-found k xs x y p q = cc

-- a segment that was made stays, and a destroyed one stays destroyed
pub record Stays (i : ℕ) (old : Segment) (after : List Segment) : Type 0 where
  pub new : Segment
  pub found : with_id i after ≡ Some new
  pub dead : destroyed old ≡ true → destroyed new ≡ true

pub found-after : (sites home : ℕ) (op : Op) (segments : List Segment) (done : Called) → Effect sites home op segments done
    → (i : ℕ) (g : Segment) → with_id i segments ≡ Some g → Stays i g done.segments
found-after sites home op segments done (kept reply none) i g found = record { new = g; found = found; dead = λ h. h }
found-after sites home op segments done (made reply new is) i g found = record { new = g; found = find-push (λ x. i == x.id) segments new g found; dead = λ h. h }
found-after sites home op segments done (changed reply id old new was alive change) i g found = record {
  new = if id == g.id then new else g;
  found = found-replaced i id new segments g change.same_id found;
  dead = stays-dead (id == g.id) refl;
}
  where
    stays-dead : (b : Bool) → (id == g.id) ≡ b → destroyed g ≡ true → destroyed (if b then new else g) ≡ true
    stays-dead false is dead = dead
    stays-dead true is dead =
        let at : i ≡ id = sym (found-id i segments g found) ∙ sym (let e : id ≡ g.id = grind (arith, nat_tests) in e) in
        let same : old ≡ g = same-found id segments old g was (subst (λ k. with_id k segments ≡ Some g) at found) in
        let gone : destroyed old ≡ true = subst (λ x. destroyed x ≡ true) (sym same) dead in
        cc
