-- A home's table: its identifiers are within the limits, and what a call destroyed is destroyed in it.
use Rattle.std.proofs.Common.{◌≡◌, ℕ, ◌+◌, ◌*◌, ◌<◌, ◌≤◌, Bool, true, false, ◌==◌, ◌&&◌, ◌||◌, not, if◌then◌else◌, List, Option, Some, None, nat_lt, nat_le, mul-le-mul_right, arith, refl, sym, ◌∙◌, ap, subst}
use Rattle.std.specs.List.{AllByRecursion}
use Rattle.std.proofs.lemmas.Bool.{and_from, and_parts, cond_both, eqb-false, le-leb, leb-false, ltb-false, or_parts}
use Rattle.shm_place.specs.Home.{home_of_id}
use Rattle.shm_place.specs.Limits.{max_segment_bytes, segments_of_a_home}
use Rattle.shm_model.specs.declared.call.Cred.{Cred}
use Rattle.shm_model.specs.declared.call.Op.{Op}
use Rattle.shm_model.specs.declared.call.Op.TheVariants.{Get, Attach, Detach, Remove, Set, Stat}
use Rattle.shm_model.specs.Basics.{greatest}
use Rattle.shm_model.specs.Permission.{Segment, destroyed, has_creat, has_excl, is_owner, may_attach, may_get, may_stat}
use Rattle.shm_model.specs.Kernel.{Called, attach, call, destroyed_in, detach, get_found, is_destroyed, live_at, made_at, make, max_live, named_by, next_id, on_live, remove, replaced, set, stat, with_id, with_key}
use Rattle.shm_model.specs.Calls.{is_size, op_home}
use Rattle.shm_laws.proofs.Kernel.Effect.{effect-call, every-replaced}
use Rattle.shm_laws.proofs.Kernel.Count.{found-after}
use Rattle.shm_laws.proofs.Kernel.Lists.{every-push, found-holds}

abbrev pub InLimits : ℕ → Segment → Type 0
InLimits sites g = g.id < segments_of_a_home * sites

abbrev pub Limited : ℕ → List Segment → Type 0
Limited sites segments = AllByRecursion (InLimits sites) segments

new-in-limits : (made sites home : ℕ) → made < segments_of_a_home → home < sites → made * sites + home < segments_of_a_home * sites
new-in-limits made sites home few small = let h : (made + 1) * sites ≤ segments_of_a_home * sites = mul-le-mul_right sites (omega arith) in omega (arith, h, few, small)

-- what holds of identifiers and sizes, and of each new segment, holds of all after a call
module _ (P : ℕ → ℕ → Type 0) (sites home : ℕ) (segments : List Segment)
    (new_is : (size : ℕ) → made_at sites home segments < segments_of_a_home → is_size size ≡ true → P (next_id sites home segments) size)
    (all : AllByRecursion (λ (g : Segment). P g.id g.size) segments) where
  abbrev CalledLimited : Called → Type 0
  CalledLimited c = AllByRecursion (λ (g : Segment). P g.id g.size) c.segments

  sized : (size : ℕ) → ((size == 0) || nat_lt max_segment_bytes size) ≡ false → is_size size ≡ true
  sized size e =
      let parts = or_parts (size == 0) (nat_lt max_segment_bytes size) e in
      let some : 1 ≤ size = not_zero size (eqb-false size 0 parts.0) in
      and_from (nat_le 1 size) (nat_le size max_segment_bytes) (le-leb 1 size some) (le-leb size max_segment_bytes (ltb-false max_segment_bytes size parts.1))
    where
      not_zero : (n : ℕ) → (n ≡ 0 → ⊥) → 1 ≤ n
      not_zero n h = omega (arith, h)

  make-limited : (cred : Cred) (key size mode : ℕ) → CalledLimited (make sites home cred key size mode segments)
  make-limited cred key size mode =
      cond_both ((size == 0) || nat_lt max_segment_bytes size) _ _ CalledLimited (λ e. all)
      (λ e. cond_both (nat_le max_live (live_at sites home segments) || nat_le segments_of_a_home (made_at sites home segments)) _ _ CalledLimited (λ f. all)
      (λ f. let few = leb-false segments_of_a_home (made_at sites home segments) (or_parts (nat_le max_live (live_at sites home segments)) (nat_le segments_of_a_home (made_at sites home segments)) f).1 in
      every-push (λ (g : Segment). P g.id g.size) segments _ all (new_is size few (sized size e))))

  found-limited : (found : Option Segment) (cred : Cred) (key size mode flags : ℕ) → CalledLimited (get_found found sites home cred key size mode flags segments)
  found-limited None cred key size mode flags = cond_both (has_creat flags) _ _ CalledLimited (λ e. make-limited cred key size mode) (λ e. all)
  found-limited (Some g) cred key size mode flags =
      cond_both (has_creat flags && has_excl flags) _ _ CalledLimited (λ e. all)
      (λ e. cond_both (nat_lt g.size size) _ _ CalledLimited (λ f. all) (λ f. cond_both (may_get cred mode g) _ _ CalledLimited (λ h. all) (λ h. all)))

  live-limited : (found : Option Segment) (f : Segment → Called) → ((g : Segment) → found ≡ Some g → CalledLimited (f g)) → CalledLimited (on_live found f segments)
  live-limited None f each = all
  live-limited (Some g) f each = cond_both (destroyed g) _ _ CalledLimited (λ e. all) (λ e. each g refl)

  module _ (id : ℕ) (g : Segment) (found : with_id id segments ≡ Some g) where
    here : P g.id g.size
    here = found-holds (λ (x : Segment). P x.id x.size) (λ x. id == x.id) segments g all found

    changed-limited : (new : Segment) → new.id ≡ g.id → new.size ≡ g.size → AllByRecursion (λ (x : Segment). P x.id x.size) (replaced id new segments)
    changed-limited new same size =
        every-replaced (λ (x : Segment). P x.id x.size) id new segments (subst (λ i. P i new.size) (sym same) (subst (λ n. P g.id n) (sym size) here)) all

    attach-limited : (cred : Cred) (ro : Bool) → CalledLimited (attach cred id ro g segments)
    attach-limited cred ro =
        cond_both (not (may_attach cred ro g)) _ _ CalledLimited (λ e. all) (λ e. cond_both (g.nattch == greatest) _ _ CalledLimited (λ f. all) (λ f. changed-limited _ refl refl))

    detach-limited : CalledLimited (detach id g segments)
    detach-limited = cond_both (g.nattch == 0) _ _ CalledLimited (λ e. all) (λ e. changed-limited _ refl refl)

    remove-limited : (cred : Cred) → CalledLimited (remove cred id g segments)
    remove-limited cred = cond_both (not (is_owner cred g)) _ _ CalledLimited (λ e. all) (λ e. changed-limited _ refl refl)

    set-limited : (cred : Cred) (uid gid mode : ℕ) → CalledLimited (set cred id uid gid mode g segments)
    set-limited cred uid gid mode = cond_both (not (is_owner cred g)) _ _ CalledLimited (λ e. all) (λ e. changed-limited _ refl refl)

    stat-limited : (cred : Cred) → CalledLimited (stat cred g segments)
    stat-limited cred = cond_both (not (may_stat cred g)) _ _ CalledLimited (λ e. all) (λ e. all)

  call-all : (op : Op) → CalledLimited (call sites home op segments)
  call-all (Get cred key size mode flags) =
      cond_both (key == 0) _ _ CalledLimited (λ e. make-limited cred key size mode) (λ e. found-limited (with_key key segments) cred key size mode flags.0)
  call-all (Attach cred id ro) = live-limited (with_id id segments) _ (λ g found. attach-limited id g found cred ro)
  call-all (Detach id) = live-limited (with_id id segments) _ (λ g found. detach-limited id g found)
  call-all (Remove cred id) = live-limited (with_id id segments) _ (λ g found. remove-limited id g found cred)
  call-all (Set cred id uid gid mode) = live-limited (with_id id segments) _ (λ g found. set-limited id g found cred uid gid mode)
  call-all (Stat cred id) = live-limited (with_id id segments) _ (λ g found. stat-limited id g found cred)

pub call-limited : (sites home : ℕ) → home < sites → (segments : List Segment) → Limited sites segments → (op : Op) → Limited sites (call sites home op segments).segments
call-limited sites home small segments all op =
    call-all (λ i size. i < segments_of_a_home * sites) sites home segments (λ size few is. new-in-limits (made_at sites home segments) sites home few small) all op

abbrev pub Sized : List Segment → Type 0
Sized segments = AllByRecursion (λ (g : Segment). is_size g.size ≡ true) segments

pub call-sized : (sites home : ℕ) (segments : List Segment) → Sized segments → (op : Op) → Sized (call sites home op segments).segments
call-sized sites home segments all op = call-all (λ i size. is_size size ≡ true) sites home segments (λ size few is. is) all op

-- what a call destroyed
if-some : (b : Bool) (j i : ℕ) → (if b then Some j else None) ≡ Some i → (b ≡ true) × (j ≡ i)
if-some true j i is = (refl, cc)
if-some false j i is = cc

pub destroyed-named : (found : Option ℕ) (before after : List Segment) (i : ℕ) → destroyed_in found before after ≡ Some i → (found ≡ Some i) × (is_destroyed (with_id i after) ≡ true)
destroyed-named None before after i is = cc
destroyed-named (Some j) before after i is =
    let h = if-some (is_destroyed (with_id j after) && not (is_destroyed (with_id j before))) j i is in
    (ap Some h.1, subst (λ k. is_destroyed (with_id k after) ≡ true) h.1 (and_parts (is_destroyed (with_id j after)) (not (is_destroyed (with_id j before))) h.0).0)

pub named-home : (sites caller : ℕ) (op : Op) (i : ℕ) → named_by op ≡ Some i → home_of_id sites i ≡ op_home sites caller op
named-home sites caller (Get cred key size mode flags) i is = cc
named-home sites caller (Attach cred id ro) i is = let same : id ≡ i = cc in ap (home_of_id sites) (sym same)
named-home sites caller (Detach id) i is = let same : id ≡ i = cc in ap (home_of_id sites) (sym same)
named-home sites caller (Remove cred id) i is = let same : id ≡ i = cc in ap (home_of_id sites) (sym same)
named-home sites caller (Set cred id uid gid mode) i is = let same : id ≡ i = cc in ap (home_of_id sites) (sym same)
named-home sites caller (Stat cred id) i is = let same : id ≡ i = cc in ap (home_of_id sites) (sym same)

-- what was destroyed stays so in a call of this home
pub destroyed-stays : (sites home caller : ℕ) → home < sites → (op : Op) (segments : List Segment) → op_home sites caller op ≡ home → (i : ℕ)
    → is_destroyed (with_id i segments) ≡ true → is_destroyed (with_id i (call sites home op segments).segments) ≡ true
destroyed-stays sites home caller small op segments at i gone = by-found (with_id i segments) refl gone
  where
    by-found : (found : Option Segment) → with_id i segments ≡ found → is_destroyed found ≡ true → is_destroyed (with_id i (call sites home op segments).segments) ≡ true
    by-found None h gone = cc
    by-found (Some g) h gone =
        let stays = found-after sites home op segments (call sites home op segments) (effect-call sites home caller small op segments at) i g h in
        ap is_destroyed stays.found ∙ stays.dead gone
