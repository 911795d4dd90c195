-- A table stays one where a live segment's record is put anew, and where a segment is made.
use Rattle.std.proofs.Common.{◌≡◌, ℕ, ◌+◌, ◌/◌, ◌%◌, ◌<◌, ◌≤◌, Bool, true, false, not, ◌&&◌, ◌||◌, ◌==◌, nat_lt, cond, if◌then◌else◌, List, Option, Some, None, length, set, get_or, sym, ◌∙◌, ap, refl, subst, arith, ⊎_elim, ◌⊎◌}
use Rattle.std.proofs.lemmas.Bool.{cases_eq, eq-eqb, ne_eqb}
use Rattle.std.proofs.lemmas.List.{length-set, get_or-set_same}
use Rattle.std.proofs.lemmas.List.Sums.{sum_by-set, get_or-le-sum_by}
use Rattle.shm_model.specs.Permission.{Segment, destroyed}
use Rattle.shm_model.specs.Kernel.{is_destroyed, replaced, destroyed_in}
use Rattle.shm_keys.specs.Purge.{AllMissing, AllPass, IsRising, missing_after}
use Rattle.shm_keys.specs.Table.{IsLive, IsTable, live_count, is_purged_from}
use Rattle.shm_keys.specs.declared.pending_purge.Purge.{Purge}
use Rattle.shm_keys.proofs.Segments.{freed, place_of_id, live_place, numbered-set, indexed-set, purged-set, with_id_found, with_id_replaced}

-- all sites are missing of the segment from now on, where none was before
pub begun : (m : ℕ → ℕ → Bool) (dead sites id site : ℕ) → m dead site ≡ false → (m id site || ((id == dead) && nat_lt site sites)) ≡ missing_after (Some dead) sites m id site
begun m dead sites id site none =
    ⊎_elim (λ (e : dead ≡ id). rw (eq-eqb dead id e, eq-eqb id dead (sym e), subst (λ n. m n site ≡ false) e none) refl)
    (λ (ne : dead ≡ id → ⊥). rw (ne_eqb dead id ne, ne_eqb id dead (λ e. ne (sym e))) (or_false (m id site)))
    (cases_eq dead id)
  where
    or_false : (a : Bool) → (a || false) ≡ a
    or_false a = grind arith

pub some_live : (s : List Segment) (place : ℕ) (d : Segment) → place < length s → destroyed (get_or s place d) ≡ false → 0 < live_count s
some_live s place d lt alive =
    let one : cond (not (destroyed (get_or s place d))) 1 0 ≤ live_count s = get_or-le-sum_by (λ g. cond (not (destroyed g)) 1 0) s place d lt in
    let is_one : ◌≡◌ {A = ℕ} (cond (not (destroyed (get_or s place d))) 1 0) 1 = rw alive refl in omega (arith, one, is_one)

pub live_count-set : (s : List Segment) (place : ℕ) (new d : Segment) → place < length s → destroyed (get_or s place d) ≡ false → live_count (set s place new) + (if destroyed new then 1 else 0) ≡ live_count s
live_count-set s place new d lt alive =
    let sum : live_count (set s place new) + cond (not (destroyed (get_or s place d))) 1 0 ≡ live_count s + cond (not (destroyed new)) 1 0 = sum_by-set (λ g. cond (not (destroyed g)) 1 0) s place new d lt in
    let is_one : ◌≡◌ {A = ℕ} (cond (not (destroyed (get_or s place d))) 1 0) 1 = rw alive refl in
    count (live_count (set s place new)) (live_count s) (destroyed new) (rw is_one at sum)
  where
    count : (m n : ℕ) (b : Bool) → m + 1 ≡ n + cond (not b) 1 0 → m + (if b then 1 else 0) ≡ n
    count m n true h = omega arith
    count m n false h = omega arith

pub table-set : (home sites : ℕ) (s : List Segment) (places later : ℕ → Option ℕ) (live still : ℕ) (purges after : List Purge) (room : ℕ) (old new : Segment) → IsTable home sites s places live purges room
    → new.id % sites ≡ home → IsLive s new.id old → (new.key ≡ old.key) ⊎ (new.key ≡ 0)
    → ((key : ℕ) → later key ≡ freed old.key new.key places key)
    → still + (if destroyed new then 1 else 0) ≡ live → still + length after ≡ live + length purges → IsRising after → AllMissing after
    → ((test : ℕ → Bool) → AllPass test purges → (destroyed new ≡ true → test new.id ≡ true) → AllPass test after)
    → IsTable home sites (set s (new.id / sites) new) later still after room
table-set home sites s places later live still purges after room old new t at_home lives kept gone counts lengths rising all pass =
    let here = live_place home sites s new.id old t.numbered at_home lives in
    let numbered = numbered-set home sites s (new.id / sites) new t.numbered (place_of_id new.id sites home at_home t.numbered.below) here.0 in
    let alive : destroyed (get_or s (new.id / sites) new) ≡ false = rw (here.1 new) lives.alive in
    let long = length-set s (new.id / sites) new in
    record {
      few = let f = t.few in omega (arith, f, long);
      numbered = numbered;
      indexed = indexed-set s (new.id / sites) new old places later here.0 t.indexed here.1 kept gone;
      counted = let sum = live_count-set s (new.id / sites) new new here.0 alive in let was = t.counted in omega (arith, sum, was, counts);
      rising = rising;
      all_missing = all;
      purging = pass (is_purged_from (set s (new.id / sites) new))
          (λ k d lt. purged-set s (new.id / sites) new new (get_or purges k d).id (sym lives.own ∙ ap (λ (g : Segment). g.id) (sym (here.1 new))) (ap is_destroyed lives.found ∙ lives.alive) (t.purging k d lt))
          (λ dead. ap is_destroyed (with_id_found home sites (set s (new.id / sites) new) new.id new numbered at_home (omega (arith, long, here.0))) ∙ ap destroyed (get_or-set_same s (new.id / sites) new new here.0) ∙ dead);
      roomy = let r = t.roomy in omega (arith, r, lengths);
    }

-- a live segment's record that comes anew destroys it, or nothing
pub destroyed_once : (s : List Segment) (old new : Segment) → IsLive s new.id old → destroyed_in (Some new.id) s (replaced new.id new s) ≡ (if destroyed new then Some new.id else None)
destroyed_once s old new lives = rw (with_id_replaced s new.id old new lives.found refl, lives.found, lives.alive) (same (destroyed new) new.id)
  where
    same : (b : Bool) (id : ℕ) → (if b && true then Some id else None) ≡ (if b then Some id else None)
    same true id = refl
    same false id = refl
