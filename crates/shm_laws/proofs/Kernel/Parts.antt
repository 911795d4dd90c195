-- A call on the one kernel and on a home's part of its list: the same reply, and the part of the new list.
use Rattle.std.proofs.Common.{◌≡◌, ◌≢◌, ℕ, ◌%◌, ◌<◌, Bool, true, false, cond, not, ◌&&◌, ◌||◌, List, [], ◌∷◌, ◌++◌, filter, Option, Some, None, if◌then◌else◌, ◌==◌, refl, sym, ap, ◌∙◌, arith, nat_lt, nat_le, append-nil}
use Rattle.std.specs.List.{AllByRecursion}
use Rattle.std.proofs.lemmas.Bool.Decides.{nat_tests}
use Rattle.std.proofs.lemmas.List.Elements.{filter-append}
use Rattle.std.proofs.lemmas.Nat.{mod-mul-add}
use Rattle.shm_place.specs.Home.{home_of_id}
use Rattle.shm_place.specs.Limits.{max_segment_bytes, segments_of_a_home}
use Rattle.shm_model.specs.Basics.{greatest}
use Rattle.shm_model.specs.Permission.{Segment, destroyed, is_owner, may_attach, may_get, may_stat, has_creat, has_excl}
use Rattle.shm_model.specs.Kernel.{Called, call, get, get_found, is_at, live_at, made_at, make, max_live, new_segment, next_id, on_live, replaced, with_id, with_key}
use Rattle.shm_model.specs.Calls.{op_home}
use Rattle.shm_model.specs.declared.call.Cred.{Cred}
use Rattle.shm_model.specs.declared.call.Op.{Op}
use Rattle.shm_model.specs.declared.call.Op.TheVariants.{Get, Attach, Detach, Remove, Set, Stat}
use Rattle.shm_model.specs.declared.call.Reply.{Reply}
use Rattle.shm_laws.proofs.Kernel.Lists.{count-filter, every, every-weaker, filter-map, find-filter, find-passes, left-true, map-filter}

-- a home's part of a list of segments
abbrev pub part : ℕ → ℕ → List Segment → List Segment
part sites home segments = filter (is_at sites home) segments

-- a segment other than those of keys that another home keeps
abbrev pub HasKeyAtHome : ℕ → Segment → Type 0
HasKeyAtHome sites g = g.key ≢ 0 → home_of_id sites g.id ≡ g.key % sites

-- what a call on a home's part gives, against what it gives on the whole list
pub record Parts (sites home : ℕ) (segments : List Segment) (here there : Called) : Type 0 where
  pub reply : here.reply ≡ there.reply
  pub own : here.segments ≡ part sites home there.segments
  pub others : (k : ℕ) → k ≢ home → part sites k there.segments ≡ part sites k segments

pub found-id : (id : ℕ) (segments : List Segment) (g : Segment) → with_id id segments ≡ Some g → g.id ≡ id
found-id id segments g found = let h = find-passes (λ x. id == x.id) segments g found in grind (arith, nat_tests)

not-zero : (key : ℕ) → (key == 0) ≡ false → key ≢ 0
not-zero key h = grind (arith, nat_tests)

module _ (sites home : ℕ) (below : home < sites) (segments : List Segment) where
  abbrev Fits : Called → Called → Type 0
  Fits here there = Parts sites home segments here there

  fits-same : (reply : Reply) → Fits (record { reply = reply; segments = part sites home segments }) (record { reply = reply; segments = segments })
  fits-same reply = record { reply = refl; own = refl; others = λ k other. refl }

  fits-if : (b : Bool) (x y u v : Called) → Fits x u → Fits y v → Fits (if b then x else y) (if b then u else v)
  fits-if true x y u v yes' no' = yes'
  fits-if false x y u v yes' no' = no'

  same-id : (id : ℕ) (new g : Segment) → new.id ≡ id → (if id == g.id then new else g).id ≡ g.id
  same-id id new g same = grind (arith, nat_tests)

  same-home : (id k : ℕ) (new g : Segment) → new.id ≡ id → is_at sites k (if id == g.id then new else g) ≡ is_at sites k g
  same-home id k new g same = ap (λ i. home_of_id sites i == k) (same-id id new g same)

  elsewhere : (id k : ℕ) (new g : Segment) → home_of_id sites id ≡ home → k ≢ home → is_at sites k g ≡ true → (if id == g.id then new else g) ≡ g
  elsewhere id k new g at other kept = grind (arith, nat_tests)

  fits-replaced : (id : ℕ) (new : Segment) (reply : Reply) → new.id ≡ id → home_of_id sites id ≡ home
      → Fits (record { reply = reply; segments = replaced id new (part sites home segments) }) (record { reply = reply; segments = replaced id new segments })
  fits-replaced id new reply same at = record {
    reply = refl;
    own = sym (filter-map (is_at sites home) (λ g. if id == g.id then new else g) (λ g. same-home id home new g same) segments);
    others = λ k other. filter-map (is_at sites k) (λ g. if id == g.id then new else g) (λ g. same-home id k new g same) segments
        ∙ map-filter (is_at sites k) (λ g. if id == g.id then new else g) (λ g kept. elsewhere id k new g at other kept) segments;
  }

  one-more : (k : ℕ) (new : Segment) → part sites k (segments ++ (new ∷ [])) ≡ part sites k segments ++ part sites k (new ∷ [])
  one-more k new = filter-append (is_at sites k) segments (new ∷ [])

  alone : (k : ℕ) (new : Segment) (b : Bool) → is_at sites k new ≡ b → part sites k (new ∷ []) ≡ cond b (new ∷ []) []
  alone k new b is = rw is

  is-here : (new : Segment) → home_of_id sites new.id ≡ home → is_at sites home new ≡ true
  is-here new at = grind (arith, nat_tests)

  not-there : (k : ℕ) (new : Segment) → home_of_id sites new.id ≡ home → k ≢ home → is_at sites k new ≡ false
  not-there k new at other = grind (arith, nat_tests)

  fits-made : (new : Segment) (reply : Reply) → home_of_id sites new.id ≡ home
      → Fits (record { reply = reply; segments = part sites home segments ++ (new ∷ []) }) (record { reply = reply; segments = segments ++ (new ∷ []) })
  fits-made new reply at = record {
    reply = refl;
    own = sym (one-more home new ∙ ap (λ x. part sites home segments ++ x) (alone home new true (is-here new at)));
    others = λ k other. one-more k new ∙ (ap (λ x. part sites k segments ++ x) (alone k new false (not-there k new at other)) ∙ append-nil (part sites k segments));
  }

  made-here : made_at sites home (part sites home segments) ≡ made_at sites home segments
  made-here = count-filter (is_at sites home) (is_at sites home) (λ g h. h) segments

  live-here : live_at sites home (part sites home segments) ≡ live_at sites home segments
  live-here = count-filter (λ g. is_at sites home g && not (destroyed g)) (is_at sites home) (λ g h. left-true (is_at sites home g) (not (destroyed g)) h) segments

  next-home : home_of_id sites (next_id sites home segments) ≡ home
  next-home = mod-mul-add (made_at sites home segments) sites home below

  fits-make : (cred : Cred) (key size mode : ℕ) → Fits (make sites home cred key size mode (part sites home segments)) (make sites home cred key size mode segments)
  fits-make cred key size mode =
      rw (made-here, live-here)
      (fits-if ((size == 0) || nat_lt max_segment_bytes size) _ _ _ _ (fits-same _)
      (fits-if (nat_le max_live (live_at sites home segments) || nat_le segments_of_a_home (made_at sites home segments)) _ _ _ _ (fits-same _)
      (fits-made (new_segment (next_id sites home segments) cred key size mode) _ next-home)))

  is-of-home : (id : ℕ) (g : Segment) → home_of_id sites id ≡ home → (id == g.id) ≡ true → is_at sites home g ≡ true
  is-of-home id g at found = grind (arith, nat_tests)

  is-of-key : (key : ℕ) (g : Segment) → key ≢ 0 → key % sites ≡ home → HasKeyAtHome sites g → (key == g.key) ≡ true → is_at sites home g ≡ true
  is-of-key key g keyed at at-home found = grind (arith, nat_tests)

  fits-on_live : (found : Option Segment) (here there : Segment → Called) → ((g : Segment) → found ≡ Some g → Fits (here g) (there g))
      → Fits (on_live found here (part sites home segments)) (on_live found there segments)
  fits-on_live None here there fits = fits-same _
  fits-on_live (Some g) here there fits = fits-if (destroyed g) _ _ _ _ (fits-same _) (fits g refl)

  -- the segment of one of the home's identifiers
  pub finds-id : (id : ℕ) → home_of_id sites id ≡ home → with_id id (part sites home segments) ≡ with_id id segments
  finds-id id at = find-filter (λ g. id == g.id) (is_at sites home) segments (every _ (λ g found. is-of-home id g at found) segments)

  fits-named : (id : ℕ) (here there : Segment → Called) → home_of_id sites id ≡ home → ((g : Segment) → g.id ≡ id → Fits (here g) (there g))
      → Fits (on_live (with_id id (part sites home segments)) here (part sites home segments)) (on_live (with_id id segments) there segments)
  fits-named id here there at fits =
      rw (finds-id id at) (fits-on_live (with_id id segments) here there (λ g found. fits g (found-id id segments g found)))

  -- the segment of a key whose home this is
  finds-key : (key : ℕ) → key ≢ 0 → key % sites ≡ home → AllByRecursion (HasKeyAtHome sites) segments → with_key key (part sites home segments) ≡ with_key key segments
  finds-key key keyed at kept = find-filter (λ g. key == g.key) (is_at sites home) segments
      (every-weaker _ _ (λ g at-home found. is-of-key key g keyed at at-home found) segments kept)

  fits-get_found : (found : Option Segment) (cred : Cred) (key size mode flags : ℕ)
      → Fits (get_found found sites home cred key size mode flags (part sites home segments)) (get_found found sites home cred key size mode flags segments)
  fits-get_found None cred key size mode flags = fits-if (has_creat flags) _ _ _ _ (fits-make cred key size mode) (fits-same _)
  fits-get_found (Some g) cred key size mode flags =
      fits-if (has_creat flags && has_excl flags) _ _ _ _ (fits-same _)
      (fits-if (nat_lt g.size size) _ _ _ _ (fits-same _)
      (fits-if (may_get cred mode g) _ _ _ _ (fits-same _) (fits-same _)))

  fits-get : (none : Bool) (caller key : ℕ) (cred : Cred) (size mode flags : ℕ) → (key == 0) ≡ none → (if none then caller else key % sites) ≡ home
      → AllByRecursion (HasKeyAtHome sites) segments
      → Fits (get sites home cred key size mode flags (part sites home segments)) (get sites home cred key size mode flags segments)
  fits-get true caller key cred size mode flags is at kept = rw is (fits-make cred key size mode)
  fits-get false caller key cred size mode flags is at kept =
      rw (is, finds-key key (not-zero key is) at kept) (fits-get_found (with_key key segments) cred key size mode flags)

  -- a call on a home's part is the call on the whole
  pub fits-call : (caller : ℕ) (op : Op) → op_home sites caller op ≡ home → AllByRecursion (HasKeyAtHome sites) segments
      → Fits (call sites home op (part sites home segments)) (call sites home op segments)
  fits-call caller (Get cred key size mode flags) at kept = fits-get (key == 0) caller key cred size mode flags.0 refl at kept
  fits-call caller (Attach cred id ro) at kept = fits-named id _ _ at (λ g is.
      fits-if (not (may_attach cred ro g)) _ _ _ _ (fits-same _)
      (fits-if (g.nattch == greatest) _ _ _ _ (fits-same _) (fits-replaced id _ _ is at)))
  fits-call caller (Detach id) at kept = fits-named id _ _ at (λ g is.
      fits-if (g.nattch == 0) _ _ _ _ (fits-same _) (fits-replaced id _ _ is at))
  fits-call caller (Remove cred id) at kept = fits-named id _ _ at (λ g is.
      fits-if (not (is_owner cred g)) _ _ _ _ (fits-same _) (fits-replaced id _ _ is at))
  fits-call caller (Set cred id uid gid mode) at kept = fits-named id _ _ at (λ g is.
      fits-if (not (is_owner cred g)) _ _ _ _ (fits-same _) (fits-replaced id _ _ is at))
  fits-call caller (Stat cred id) at kept = fits-named id _ _ at (λ g is.
      fits-if (not (may_stat cred g)) _ _ _ _ (fits-same _) (fits-same _))
