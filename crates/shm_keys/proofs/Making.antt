-- What `make` answers, from the fields of a table; and a table stays one where a segment is made.
use Rattle.std.proofs.Common.{◌≡◌, ◌≢◌, ℕ, ◌+◌, ◌*◌, ◌%◌, ◌<◌, ◌≤◌, Bool, true, false, not, ◌&&◌, ◌==◌, nat_le, cond, if◌then◌else◌, List, [], ◌∷◌, ◌++◌, Option, Some, None, length, get_or, sym, ◌∙◌, ap, refl, suc, inl, inr, arith, ⊎_elim, ◌⊎◌}
use Rattle.std.specs.List.{count_by, find, position_or_len}
use Rattle.std.specs.Option.{option_or}
use Rattle.std.proofs.lemmas.Nat.{mod-mul-add}
use Rattle.std.proofs.lemmas.Bool.{cases_eq, cases_lt, eq-eqb, ne_eqb, false≢true, le-ltb, le-leb, lt-leb, or_right}
use Rattle.std.proofs.lemmas.List.{length_push, get_or_push, get_or_append_left}
use Rattle.std.proofs.lemmas.List.Folds.{find_at, find-append}
use Rattle.std.proofs.lemmas.List.Sums.{fails_before_first, sum_by-cons, sum_by_push}
use Rattle.std.proofs.lemmas.Option.{same_Some, none-some, slice_get-get_or}
use Rattle.shm_place.specs.Limits.{max_segment_bytes, segments_of_a_home}
use Rattle.shm_model.specs.Permission.{Segment, destroyed}
use Rattle.shm_model.specs.Kernel.{with_id, with_key, is_destroyed, is_at, made_at, live_at, make, next_id, new_segment, refuse, max_live}
use Rattle.shm_model.specs.declared.call.Cred.{Cred}
use Rattle.shm_model.specs.declared.call.Errno.TheVariants.{Enospc}
use Rattle.shm_model.specs.declared.call.Reply.TheVariants.{Id}
use Rattle.shm_keys.specs.Table.{IsNumbered, IsIndexed, IsTable, live_count}
use Rattle.shm_keys.specs.declared.pending_purge.Purge.{Purge}

count_congr : (p q : Segment → Bool) (s : List Segment) → ((k : ℕ) (d : Segment) → k < length s → p (get_or s k d) ≡ q (get_or s k d)) → count_by p s ≡ count_by q s
count_congr p q [] same = refl
count_congr p q (g ∷ s) same =
    sum_by-cons (λ g. cond (p g) 1 0) g s ∙
    (let first : p g ≡ q g = same 0 g (omega arith) in
    let rest = count_congr p q s (λ k d lt. same (suc k) d (omega arith)) in
    rw (first, rest) refl) ∙ sym (sum_by-cons (λ g. cond (q g) 1 0) g s)

count_all : (s : List Segment) → count_by (λ g. true) s ≡ length s
count_all [] = refl
count_all (g ∷ s) = sum_by-cons (λ (g : Segment). cond true 1 0) g s ∙ (let rest = count_all s in omega (arith, rest))

own_home : (home sites : ℕ) (s : List Segment) (k : ℕ) (d : Segment) → IsNumbered home sites s → k < length s → is_at sites home (get_or s k d) ≡ true
own_home home sites s k d n lt = eq-eqb ((get_or s k d).id % sites) home (ap (λ m. m % sites) (n.each k d lt) ∙ mod-mul-add k sites home n.below)

pub made : (home sites : ℕ) (s : List Segment) → IsNumbered home sites s → made_at sites home s ≡ length s
made home sites s n = count_congr (is_at sites home) (λ g. true) s (λ k d lt. own_home home sites s k d n lt) ∙ count_all s

pub lives : (home sites : ℕ) (s : List Segment) → IsNumbered home sites s → live_at sites home s ≡ live_count s
lives home sites s n = count_congr (λ g. is_at sites home g && not (destroyed g)) (λ g. not (destroyed g)) s (λ k d lt. rw (own_home home sites s k d n lt) refl)

pub make_full : (home sites : ℕ) (cred : Cred) (key size mode : ℕ) (s : List Segment) (live : ℕ) → IsNumbered home sites s → live ≡ live_count s → size ≢ 0 → size ≤ max_segment_bytes
    → (max_live ≤ live) ⊎ (segments_of_a_home ≤ length s) → make sites home cred key size mode s ≡ refuse Enospc s
make_full home sites cred key size mode s live n counted some small full =
    rw (ne_eqb size 0 some, le-ltb max_segment_bytes size small, made home sites s n, lives home sites s n ∙ sym counted)
    (⊎_elim (λ (h : max_live ≤ live). rw (le-leb max_live live h) refl)
    (λ (h : segments_of_a_home ≤ length s). rw (le-leb segments_of_a_home (length s) h, or_right (nat_le max_live live) true refl) refl) full)

pub make_new : (home sites : ℕ) (cred : Cred) (key size mode : ℕ) (s : List Segment) (live : ℕ) → IsNumbered home sites s → live ≡ live_count s → size ≢ 0 → size ≤ max_segment_bytes
    → live < max_live → length s < segments_of_a_home
    → make sites home cred key size mode s ≡ record { reply = Id (length s * sites + home); segments = s ++ (new_segment (length s * sites + home) cred key size mode ∷ []) }
make_new home sites cred key size mode s live n counted some small few fewer =
    rw (ne_eqb size 0 some, le-ltb max_segment_bytes size small, made home sites s n, lives home sites s n ∙ sym counted, lt-leb max_live live few, lt-leb segments_of_a_home (length s) fewer) refl

pub next : (home sites : ℕ) (s : List Segment) → IsNumbered home sites s → next_id sites home s ≡ length s * sites + home
next home sites s n = ap (λ m. m * sites + home) (made home sites s n)

pub none_pass : (p : Segment → Bool) (s : List Segment) → find p s ≡ None → (k : ℕ) (d : Segment) → k < length s → p (get_or s k d) ≡ false
none_pass p s none k d lt =
    let first : ℕ = position_or_len p s in
    ⊎_elim (λ (w : first < length s). absurd (none-some (get_or s first d) (sym none ∙ find_at p s ∙ slice_get-get_or s first d w)))
    (λ (past : length s ≤ first). fails_before_first p s k d (omega arith))
    (cases_lt first (length s))

-- the index by key, with a new segment's key
abbrev pub with_place : ℕ → ℕ → (ℕ → Option ℕ) → ℕ → Option ℕ
with_place new place places key = if not (new == 0) && (new == key) then Some place else places key

place_kept : (new place : ℕ) (places : ℕ → Option ℕ) (key : ℕ) → (new ≢ 0 → new ≡ key → ⊥) → with_place new place places key ≡ places key
place_kept new place places key apart =
    ⊎_elim (λ (z : new ≡ 0). rw (eq-eqb new 0 z) refl)
    (λ (nz : new ≡ 0 → ⊥). rw (ne_eqb new 0 nz, ne_eqb new key (apart nz)) refl)
    (cases_eq new 0)

place_new : (new place : ℕ) (places : ℕ → Option ℕ) (key : ℕ) → new ≢ 0 → new ≡ key → with_place new place places key ≡ Some place
place_new new place places key nz e = rw (ne_eqb new 0 nz, eq-eqb new key e) refl

-- the index leads to a segment that stood before, or to the new one
place_cases : (new place : ℕ) (places : ℕ → Option ℕ) (key at : ℕ) → with_place new place places key ≡ Some at → ((new ≡ key) × (at ≡ place)) ⊎ (places key ≡ Some at)
place_cases new place places key at h =
    ⊎_elim (λ (z : new ≡ 0). inr (sym (place_kept new place places key (λ nz. absurd (nz z))) ∙ h))
    (λ (nz : new ≡ 0 → ⊥).
    ⊎_elim (λ (e : new ≡ key). inl (e, same_Some at place (sym h ∙ place_new new place places key nz e)))
    (λ (ne : new ≡ key → ⊥). inr (sym (place_kept new place places key (λ _ e. ne e)) ∙ h))
    (cases_eq new key))
    (cases_eq new 0)

pub indexed-push : (s : List Segment) (places later : ℕ → Option ℕ) (new : Segment) → IsIndexed s places → (new.key ≢ 0 → with_key new.key s ≡ None)
    → ((key : ℕ) → later key ≡ with_place new.key (length s) places key) → IsIndexed (s ++ (new ∷ [])) later
indexed-push s places later new index absent more = record {
  keyed = λ k d inside has_key.
      ⊎_elim (λ (e : k ≡ length s).
      let is_new : get_or (s ++ (new ∷ [])) k d ≡ new = get_or_push s new d k (sym e) in
      ap (λ (g : Segment). later g.key) is_new ∙ more new.key
      ∙ place_new new.key (length s) places new.key (λ z. has_key (ap (λ (g : Segment). g.key) is_new ∙ z)) refl ∙ ap Some (sym e))
      (λ (ne : k ≡ length s → ⊥).
      let within : k < length s = let long = length_push s new in omega (arith, long, inside, ne) in
      let is_old : get_or (s ++ (new ∷ [])) k d ≡ get_or s k d = get_or_append_left s (new ∷ []) d k within in
      let nonzero : (get_or s k d).key ≢ 0 = λ z. has_key (ap (λ (g : Segment). g.key) is_old ∙ z) in
      ap (λ (g : Segment). later g.key) is_old ∙ more (get_or s k d).key
      ∙ place_kept new.key (length s) places (get_or s k d).key
      (λ nz e. false≢true (sym (none_pass (λ g. new.key == g.key) s (absent nz) k d within) ∙ eq-eqb new.key (get_or s k d).key e))
      ∙ index.keyed k d within nonzero)
      (cases_eq k (length s));
  within = λ key k h.
      let long = length_push s new in
      ⊎_elim (λ (is_new : (new.key ≡ key) × (k ≡ length s)). omega (arith, long, is_new.1))
      (λ (is_old : places key ≡ Some k). let inside = index.within key k is_old in omega (arith, long, inside))
      (place_cases new.key (length s) places key k (sym (more key) ∙ h));
  own = λ key k d h.
      ⊎_elim (λ (is_new : (new.key ≡ key) × (k ≡ length s)). ap (λ (g : Segment). g.key) (get_or_push s new d k (sym is_new.1)) ∙ is_new.0)
      (λ (is_old : places key ≡ Some k).
      ap (λ (g : Segment). g.key) (get_or_append_left s (new ∷ []) d k (index.within key k is_old)) ∙ index.own key k d is_old)
      (place_cases new.key (length s) places key k (sym (more key) ∙ h));
}

pub stays_destroyed : (o more : Option Segment) → is_destroyed o ≡ true → is_destroyed (option_or o more) ≡ true
stays_destroyed None more h = absurd (false≢true h)
stays_destroyed (Some g) more h = h

-- a segment is made
pub table-push : (home sites : ℕ) (s : List Segment) (places later : ℕ → Option ℕ) (live : ℕ) (purges : List Purge) (room larger : ℕ) (new : Segment) → IsTable home sites s places live purges room
    → new.id ≡ length s * sites + home → length s < segments_of_a_home → destroyed new ≡ false → (new.key ≢ 0 → with_key new.key s ≡ None)
    → ((key : ℕ) → later key ≡ with_place new.key (length s) places key) → live + 1 + length purges ≤ larger → IsTable home sites (s ++ (new ∷ [])) later (live + 1) purges larger
table-push home sites s places later live purges room larger new t is_id fewer alive absent more roomy =
    let long = length_push s new in
    record {
      few = omega (arith, long, fewer);
      numbered = record {
        below = t.numbered.below;
        each = λ k d inside.
            ⊎_elim (λ (e : k ≡ length s). ap (λ (g : Segment). g.id) (get_or_push s new d k (sym e)) ∙ is_id ∙ ap (λ m. m * sites + home) (sym e))
            (λ (ne : k ≡ length s → ⊥).
            let within : k < length s = omega (arith, long, inside, ne) in
            ap (λ (g : Segment). g.id) (get_or_append_left s (new ∷ []) d k within) ∙ t.numbered.each k d within)
            (cases_eq k (length s));
      };
      indexed = indexed-push s places later new t.indexed absent more;
      counted = let sum = sum_by_push (λ (g : Segment). cond (not (destroyed g)) 1 0) s new in let was = t.counted in one_more live (live_count s) (live_count (s ++ (new ∷ []))) (destroyed new) alive was sum;
      rising = t.rising;
      all_missing = t.all_missing;
      purging = λ k d lt. ap is_destroyed (find-append (λ g. (get_or purges k d).id == g.id) s (new ∷ [])) ∙ stays_destroyed (with_id (get_or purges k d).id s) _ (t.purging k d lt);
      roomy = roomy;
    }
  where
    one_more : (live n m : ℕ) (gone : Bool) → gone ≡ false → live ≡ n → m ≡ n + cond (not gone) 1 0 → live + 1 ≡ m
    one_more live n m true h e sum = absurd (false≢true (sym h))
    one_more live n m false h e sum = omega arith

-- the same, of the lists as the code leaves them
pub table-made : (home sites : ℕ) (s grown : List Segment) (places later : ℕ → Option ℕ) (live : ℕ) (purges after : List Purge) (room larger : ℕ) (new : Segment) → IsTable home sites s places live purges room
    → grown ≡ s ++ (new ∷ []) → after ≡ purges → new.id ≡ length s * sites + home → length s < segments_of_a_home → destroyed new ≡ false → (new.key ≢ 0 → with_key new.key s ≡ None)
    → ((key : ℕ) → later key ≡ with_place new.key (length s) places key) → live + 1 + length after ≤ larger → IsTable home sites grown later (live + 1) after larger
table-made home sites s grown places later live purges after room larger new t pushed same is_id fewer alive absent more roomy =
    rw (pushed, same) (table-push home sites s places later live purges room larger new t is_id fewer alive absent more (rw same at roomy))

-- a table's copy is one
pub table-copied : (home sites : ℕ) (s copied : List Segment) (places later : ℕ → Option ℕ) (live : ℕ) (purges after : List Purge) (room larger : ℕ) → IsTable home sites s places live purges room
    → copied ≡ s → after ≡ purges → ((key : ℕ) → later key ≡ places key) → live + length after ≤ larger → IsTable home sites copied later live after larger
table-copied home sites s copied places later live purges after room larger t same_segments same_purges same_places roomy =
    rw (same_segments, same_purges) (record {
      few = t.few;
      numbered = t.numbered;
      indexed = record {
        keyed = λ k d lt has_key. same_places (get_or s k d).key ∙ t.indexed.keyed k d lt has_key;
        within = λ key k h. t.indexed.within key k (sym (same_places key) ∙ h);
        own = λ key k d h. t.indexed.own key k d (sym (same_places key) ∙ h);
      };
      counted = t.counted;
      rising = t.rising;
      all_missing = t.all_missing;
      purging = t.purging;
      roomy = rw same_purges at roomy;
    })
