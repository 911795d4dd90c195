-- What a Purge, a Purged and a tick of the home do to what is missing.
use Rattle.std.proofs.Common.{◌≡◌, ℕ, zero, suc, ◌+◌, ◌*◌, ◌<◌, ◌⊎◌, inl, inr, Bool, true, false, ◌==◌, ◌&&◌, not, if◌then◌else◌, List, [], ◌∷◌, ◌++◌, Option, Some, None, map, filter, find, nat_lt, slice_get, arith, refl, sym, ◌∙◌, ap, subst, Contains}
use Rattle.std.specs.List.{flat_map, range_with_len}
use Rattle.std.proofs.lemmas.Bool.{and_from, cond_both, cond-true, eq-eqb, lt-ltb, ltb-true}
use Rattle.std.proofs.lemmas.List.Concat.{flat_map-cons}
use Rattle.std.proofs.lemmas.List.Elements.{Contains-append_left, Contains-append_right}
use Rattle.std.proofs.lemmas.Option.{get_or_from_slice_get, slice_get-get_or, slice_get_within}
use Rattle.shm_place.specs.Home.{home_of_id}
use Rattle.shm_place.specs.Limits.{segments_of_a_home}
use Rattle.shm_model.specs.declared.answer.Answer.{Answer}
use Rattle.shm_model.specs.Basics.{at}
use Rattle.shm_model.specs.Permission.{Segment}
use Rattle.shm_model.specs.Kernel.{call as kernel_call, destroyed_by, with_id}
use Rattle.shm_model.specs.Message.{Envelope, Input, Purge, Purged}
use Rattle.shm_model.specs.SegmentCalls.{purge_envelope, purges, reply_envelope}
use Rattle.shm_model.specs.Site.{Site, is_attached, Step}
use Rattle.shm_model.specs.Step.{ask_again, call_again, deliver, foreign, is_proper, orders_again, purges_again, tick_envelopes}
use Rattle.shm_laws.proofs.Run.GoesOn.{slice_get-range}
use Rattle.shm_laws.proofs.Call.Turn.{Desk, Turn, again, attached, detach_begun, ended, executed, hears_purged, missing_with, old, op_begun, purges_one, quiet}
use Rattle.shm_laws.proofs.Call.Invariant.{at-cases}
use Rattle.shm_laws.proofs.Call.Steps.{at-here}
use Rattle.shm_laws.proofs.Kernel.Parts.{found-id}
use Rattle.shm_progress.specs.Purging.{purged_envelope}

-- elements of lists
pub contains-later : {X : Type 0} (x y : X) (xs : List X) → Contains xs y → Contains (x ∷ xs) y
contains-later x y xs (k, l, e) = (suc k, omega arith, e)

pub contains-first : {X : Type 0} (x : X) (xs : List X) → Contains (x ∷ xs) x
contains-first x xs = (0, omega arith, refl)

pub contains-range : {X : Type 0} (f : ℕ → X) (n t : ℕ) → t < n → Contains (map f (range_with_len 0 n)) (f t)
contains-range f n t l =
    let found = slice_get-range f n t l in
    (t, slice_get_within (map f (range_with_len 0 n)) t (f t) found, get_or_from_slice_get (map f (range_with_len 0 n)) t (f t) (f t) found)

range-from : (a n i : ℕ) → i < n → slice_get (range_with_len a n) i ≡ Some (a + i)
range-from a zero i l = absurd (omega arith)
range-from a (suc n) zero l = ap Some (omega arith)
range-from a (suc n) (suc i) l = range-from (a + 1) n i (omega arith) ∙ ap Some (omega arith)

pub range-at : (n i : ℕ) → i < n → slice_get (range_with_len 0 n) i ≡ Some i
range-at n i l = range-from 0 n i l ∙ ap Some (omega arith)

pub filter-passes : {X : Type 0} (p : X → Bool) (xs : List X) (k : ℕ) (y : X) → slice_get xs k ≡ Some y → p y ≡ true → Contains (filter p xs) y
filter-passes p [] k y found is = absurd (none-some y found)
  where
    none-some : {X : Type 0} (x : X) → None ≡ Some x → ⊥
    none-some x e = cc
filter-passes p (x ∷ xs) zero y found is =
    let same : x ≡ y = some-same x y found in
    subst (λ ys. Contains ys y) (sym (cond-true (p x) (x ∷ filter p xs) (filter p xs) (ap p same ∙ is))) (subst (λ z. Contains (z ∷ filter p xs) y) (sym same) (contains-first y (filter p xs)))
  where
    some-same : {X : Type 0} (x y : X) → Some x ≡ Some y → x ≡ y
    some-same x y e = cc
filter-passes p (x ∷ xs) (suc k) y found is =
    cond_both (p x) (x ∷ filter p xs) (filter p xs) (λ ys. Contains ys y) (λ e. contains-later x y (filter p xs) (filter-passes p xs k y found is)) (λ e. filter-passes p xs k y found is)

pub contains-map : {X Y : Type 0} (f : X → Y) (xs : List X) (k : ℕ) (x : X) → slice_get xs k ≡ Some x → Contains (map f xs) (f x)
contains-map f [] k x found = absurd (none-some x found)
  where
    none-some : {X : Type 0} (x : X) → None ≡ Some x → ⊥
    none-some x e = cc
contains-map f (y ∷ ys) zero x found = subst (λ z. Contains (f z ∷ map f ys) (f x)) (sym (some-same y x found)) (contains-first (f x) (map f ys))
  where
    some-same : {X : Type 0} (x y : X) → Some x ≡ Some y → x ≡ y
    some-same x y e = cc
contains-map f (y ∷ ys) (suc k) x found = contains-later (f y) (f x) (map f ys) (contains-map f ys k x found)

contains-found : (id : ℕ) (f : Segment → List Envelope) (segments : List Segment) (g : Segment) (y : Envelope) → find (λ x. id == x.id) segments ≡ Some g → Contains (f g) y
    → Contains (flat_map f segments) y
contains-found id f [] g y found here = cc
contains-found id f (x ∷ xs) g y found here = subst (λ es. Contains es y) (sym (flat_map-cons f x xs)) (by-test (λ e. contains-found id f xs g y e here) (id == x.id) found)
  where
    some-same : (x y : Segment) → Some x ≡ Some y → x ≡ y
    some-same x y e = cc

    by-test : (find (λ z. id == z.id) xs ≡ Some g → Contains (flat_map f xs) y) → (b : Bool) → (if b then Some x else find (λ z. id == z.id) xs) ≡ Some g → Contains (f x ++ flat_map f xs) y
    by-test rest true e = Contains-append_left (f x) (flat_map f xs) y (subst (λ z. Contains (f z) y) (sym (some-same x g e)) here)
    by-test rest false e = Contains-append_right (f x) (flat_map f xs) y (rest e)

-- an envelope that its receiver can have been sent
pub three : (a b c : Bool) → a ≡ true → b ≡ true → c ≡ true → not (a && b && c) ≡ true → ⊥
three true true true p q r h = cc
three true true false p q r h = cc
three true false c p q r h = cc
three false b c p q r h = cc

module _ (sites home id : ℕ) (limits : id < segments_of_a_home * sites) (at_home : home_of_id sites id ≡ home) where
  -- a Purge where no attachment names the segment is answered
  pub purge-answered : (s : ℕ) (x : Site) → home < sites → is_attached x id ≡ false → Contains (deliver sites s (purge_envelope home id s) x).sent (purged_envelope s id home)
  purge-answered s x small free =
      cond_both (foreign sites s (purge_envelope home id s)) _ _ Answers
      (λ f. absurd (three (s == s) (nat_lt home sites) (is_proper sites s home (Purge id)) (eq-eqb s s refl) (lt-ltb home sites small) proper f))
      (λ f. cond_both (is_attached x id) _ _ Answers (λ e. let both : true ≡ false = sym e ∙ free in cc)
      (λ e. subst (λ h. Contains (record { from = s; to = h; message = Purged id } ∷ []) (purged_envelope s id home)) (sym at_home) (contains-first (purged_envelope s id home) [])))
    where
      Answers : Step → Type 0
      Answers st = Contains st.sent (purged_envelope s id home)

      proper : is_proper sites s home (Purge id) ≡ true
      proper = and_from (nat_lt id (segments_of_a_home * sites)) (home == home_of_id sites id) (lt-ltb id (segments_of_a_home * sites) limits) (eq-eqb home (home_of_id sites id) (sym at_home))

  -- a Purged is heard at the home
  pub purged-heard : (t : ℕ) (x : Site) → t < sites → x.missing id t ≡ true → (deliver sites home (purged_envelope t id home) x).site.missing id t ≡ false
  purged-heard t x small missing =
      cond_both (foreign sites home (purged_envelope t id home)) _ _ Heard
      (λ f. absurd (three (home == home) (nat_lt t sites) (is_proper sites home t (Purged id)) (eq-eqb home home refl) (lt-ltb t sites small) proper f))
      (λ f. cond_both (x.missing id t) _ _ Heard
      (λ e. ap (λ (g : ℕ → Bool). g t) (at-here x.missing id (at (x.missing id) t false) id refl) ∙ at-here (x.missing id) t false t refl)
      (λ e. let both : true ≡ false = sym missing ∙ e in cc))
    where
      Heard : Step → Type 0
      Heard st = st.site.missing id t ≡ false

      proper : is_proper sites home t (Purged id) ≡ true
      proper = and_from (nat_lt id (segments_of_a_home * sites)) (home == home_of_id sites id) (lt-ltb id (segments_of_a_home * sites) limits) (eq-eqb home (home_of_id sites id) (sym at_home))

-- a tick sends the Purge to each site that is missing
pub tick-purges : (sites home id s : ℕ) (x : Site) (g : Segment) → with_id id x.table ≡ Some g → s < sites → x.missing id s ≡ true → Contains (tick_envelopes sites home x) (purge_envelope home id s)
tick-purges sites home id s x g found small missing =
    Contains-append_right (map (ask_again sites home) x.pending) _ (purge_envelope home id s)
    (Contains-append_right (flat_map (orders_again home x) x.booked) _ (purge_envelope home id s)
    (Contains-append_right (call_again sites home x.outstanding) _ (purge_envelope home id s)
    (contains-found id (purges_again sites home x) x.table g (purge_envelope home id s) found here)))
  where
    same : g.id ≡ id
    same = found-id id x.table g found

    in_range : Contains (filter (x.missing id) (range_with_len 0 sites)) s
    in_range = filter-passes (x.missing id) (range_with_len 0 sites) s s (range-at sites s small) missing

    mapped : Contains (filter (x.missing id) (range_with_len 0 sites)) s → Contains (map (purge_envelope home id) (filter (x.missing id) (range_with_len 0 sites))) (purge_envelope home id s)
    mapped (k, l, e) = contains-map (purge_envelope home id) (filter (x.missing id) (range_with_len 0 sites)) k s (slice_get-get_or (filter (x.missing id) (range_with_len 0 sites)) k s l ∙ ap Some e)

    here : Contains (purges_again sites home x g) (purge_envelope home id s)
    here = subst (λ i. Contains (map (purge_envelope home i) (filter (x.missing i) (range_with_len 0 sites))) (purge_envelope home id s)) (sym same) (mapped in_range)

-- what is missing was missing before, or is asked for now
pub missing-before : (sites s : ℕ) (d : Desk) (input : Input) (y : Desk) (answer : Answer) (sent : List Envelope) (id t : ℕ) → Turn sites s d input y answer sent → y.missing id t ≡ true
    → (d.missing id t ≡ true) ⊎ Contains sent (purge_envelope s id t)
missing-before sites s d input y answer sent id t (quiet i b ms silent plain repeats) m = inl m
missing-before sites s d input y answer sent id t (op_begun op free undetached) m = inl m
missing-before sites s d input y answer sent id t (detach_begun a z free stands) m = inl m
missing-before sites s d input y answer sent id t (executed e n op is fresh) m =
    by-gone (destroyed_by op d.table (kernel_call sites s op d.table).segments) m
  where
    by-gone : (gone : Option ℕ) → missing_with sites gone d.missing id t ≡ true
        → (d.missing id t ≡ true) ⊎ Contains (reply_envelope s e.from n (kernel_call sites s op d.table).reply ∷ purges sites s gone) (purge_envelope s id t)
    by-gone None m = inl m
    by-gone (Some j) m =
        at-cases (λ f. f t ≡ true → (d.missing id t ≡ true) ⊎ Contains (reply_envelope s e.from n (kernel_call sites s op d.table).reply ∷ purges sites s (Some j)) (purge_envelope s id t))
        d.missing j (λ r. nat_lt r sites) id
        (λ same low. inr (contains-later _ (purge_envelope s id t) (purges sites s (Some j))
        (subst (λ i. Contains (purges sites s (Some j)) (purge_envelope s i t)) same (contains-range (purge_envelope s j) sites t (ltb-true t sites low)))))
        (λ other was. inl was) m
missing-before sites s d input y answer sent id t (again e n op reply is fresh) m = inl m
missing-before sites s d input y answer sent id t (old e n op is fresh) m = inl m
missing-before sites s d input y answer sent id t (ended e n op reply is outstanding unattached) m = inl m
missing-before sites s d input y answer sent id t (attached e n cred i ro z a is outstanding free) m = inl m
missing-before sites s d input y answer sent id t (purges_one e i is) m = inl m
missing-before sites s d input y answer sent id t (hears_purged e i is) m =
    at-cases (λ f. f t ≡ true → (d.missing id t ≡ true) ⊎ Contains {X = Envelope} [] (purge_envelope s id t)) d.missing i (at (d.missing i) e.from false) id
    (λ same. at-cases (λ b. b ≡ true → (d.missing id t ≡ true) ⊎ Contains {X = Envelope} [] (purge_envelope s id t)) (d.missing i) e.from false t (λ here m. cc) (λ there m. inl (subst (λ k. d.missing k t ≡ true) same m)))
    (λ other was. inl was) m
