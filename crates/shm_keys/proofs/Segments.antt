-- What a look-up by identifier or by key finds in a table, and what a change of one record leaves.
use Rattle.std.proofs.Common.{◌≡◌, ◌≢◌, ℕ, ◌+◌, ◌*◌, ◌/◌, ◌%◌, ◌<◌, ◌≤◌, Bool, true, false, not, ◌&&◌, ◌==◌, if◌then◌else◌, List, [], ◌∷◌, Option, Some, None, length, map, set, get_or, slice_get, sym, ◌∙◌, ap, refl, subst, arith, ⊎_elim, ◌⊎◌}
use Rattle.std.specs.List.{find}
use Rattle.std.proofs.Math.Nat.{mul-le-mul_right}
use Rattle.std.proofs.lemmas.Bool.{cases_lt, cases_eq, cases_Bool, eq-eqb, ne_eqb, false≢true}
use Rattle.std.proofs.lemmas.List.{same_lists, length-map, length-set, get_or-map, get_or-set_same, get_or-set_other}
use Rattle.std.proofs.lemmas.List.Folds.{find_at, find_past}
use Rattle.std.proofs.lemmas.List.Sums.{position_or_len_is}
use Rattle.std.proofs.lemmas.Option.{same_Some, none-some, slice_get-get_or, slice_get_past}
use Rattle.shm_model.specs.Permission.{Segment}
use Rattle.shm_model.specs.Kernel.{with_id, with_key, replaced, is_destroyed}
use Rattle.shm_keys.specs.Table.{IsLive, IsNumbered, IsIndexed, is_purged_from}

-- an identifier is its place times the sites, and the home
pub place_of_id : (id sites home : ℕ) → id % sites ≡ home → home < sites → id ≡ id / sites * sites + home
place_of_id id sites home e lt = grind arith

same_place : (k place sites home : ℕ) → 0 < sites → k * sites + home ≡ place * sites + home → k ≡ place
same_place k place sites home pos e =
    ⊎_elim (λ (lt : k < place). absurd (let h = mul-le-mul_right sites lt in omega (arith, h)))
    (λ (ge : place ≤ k). ⊎_elim (λ (lt : place < k). absurd (let h = mul-le-mul_right sites lt in omega (arith, h))) (λ (le : k ≤ place). omega arith) (cases_lt place k))
    (cases_lt k place)

-- the first place that passes, found
find_here : (p : Segment → Bool) (s : List Segment) (place : ℕ) (d : Segment) → place < length s → ((k : ℕ) → k < place → p (get_or s k d) ≡ false) → p (get_or s place d) ≡ true → find p s ≡ Some (get_or s place d)
find_here p s place d lt before here =
    find_at p s ∙ ap (λ n. slice_get s n) (position_or_len_is p s place d (omega arith) before (λ _. here)) ∙ slice_get-get_or s place d lt

pub find_nowhere : (p : Segment → Bool) (s : List Segment) (d : Segment) → ((k : ℕ) → k < length s → p (get_or s k d) ≡ false) → find p s ≡ None
find_nowhere p s d none =
    find_at p s ∙ ap (λ n. slice_get s n) (position_or_len_is p s (length s) d (omega arith) none (λ lt. absurd (omega arith))) ∙ slice_get_past s (length s) (omega arith)

apart_by_place : (home sites : ℕ) (s : List Segment) (id k : ℕ) (d : Segment) → IsNumbered home sites s → id % sites ≡ home → k < length s → (k ≡ id / sites → ⊥) → id ≡ (get_or s k d).id → ⊥
apart_by_place home sites s id k d n e lt apart h =
    apart (same_place k (id / sites) sites home (positive id sites home e n.below)
    (sym (n.each k d lt) ∙ sym h ∙ place_of_id id sites home e n.below))
  where
    positive : (id sites home : ℕ) → id % sites ≡ home → home < sites → 0 < sites
    positive id sites home e b = omega arith

pub with_id_found : (home sites : ℕ) (s : List Segment) (id : ℕ) (d : Segment) → IsNumbered home sites s → id % sites ≡ home → id / sites < length s → with_id id s ≡ Some (get_or s (id / sites) d)
with_id_found home sites s id d n e lt =
    find_here (λ g. id == g.id) s (id / sites) d lt
    (λ k before. ne_eqb id (get_or s k d).id (apart_by_place home sites s id k d n e (omega arith) (λ h. absurd (omega arith))))
    (eq-eqb id (get_or s (id / sites) d).id (place_of_id id sites home e n.below ∙ sym (n.each (id / sites) d lt)))

pub nobody : Segment
nobody = record { id = 0; key = 0; uid = 0; gid = 0; cuid = 0; cgid = 0; mode = 0; size = 0; nattch = 0; marked = false }

pub with_id_missing : (home sites : ℕ) (s : List Segment) (id : ℕ) → IsNumbered home sites s → id % sites ≡ home → length s ≤ id / sites → with_id id s ≡ None
with_id_missing home sites s id n e past =
    find_nowhere (λ g. id == g.id) s nobody
    (λ k within. ne_eqb id (get_or s k nobody).id (apart_by_place home sites s id k nobody n e within (λ h. absurd (omega arith))))

pub read_by_id : (home sites : ℕ) (s : List Segment) (id : ℕ) (g : Segment) → IsNumbered home sites s → id % sites ≡ home → id / sites < length s → g ≡ get_or s (id / sites) g → (with_id id s ≡ Some g) × (g.id ≡ id)
read_by_id home sites s id g n e lt read =
    (with_id_found home sites s id g n e lt ∙ ap Some (sym read), ap (λ (h : Segment). h.id) read ∙ n.each (id / sites) g lt ∙ sym (place_of_id id sites home e n.below))

-- where a live segment stands
pub live_place : (home sites : ℕ) (s : List Segment) (id : ℕ) (g : Segment) → IsNumbered home sites s → id % sites ≡ home → IsLive s id g → (id / sites < length s) × ((d : Segment) → get_or s (id / sites) d ≡ g)
live_place home sites s id g n e live =
    ⊎_elim (λ (lt : id / sites < length s). (lt, λ d. same_Some (get_or s (id / sites) d) g (sym (with_id_found home sites s id d n e lt) ∙ live.found)))
    (λ (past : length s ≤ id / sites). absurd (none-some g (sym (with_id_missing home sites s id n e past) ∙ live.found)))
    (cases_lt (id / sites) (length s))

pub replaced_is : (home sites : ℕ) (s : List Segment) (id : ℕ) (new : Segment) → IsNumbered home sites s → id % sites ≡ home → id / sites < length s → replaced id new s ≡ set s (id / sites) new
replaced_is home sites s id new n e lt =
    let f : Segment → Segment = λ g. if id == g.id then new else g in
    same_lists (map f s) (set s (id / sites) new) (length-map s f ∙ sym (length-set s (id / sites) new)) (λ k d inside.
    let within : k < length s = let h = length-map s f in omega (arith, h) in
    get_or-map f s k d d within ∙
    ⊎_elim (λ (here : k ≡ id / sites).
    rw (eq-eqb id (get_or s k d).id (place_of_id id sites home e n.below ∙ ap (λ m. m * sites + home) (sym here) ∙ sym (n.each k d within)))
    (sym (subst (λ m. get_or (set s (id / sites) new) m d ≡ new) (sym here) (get_or-set_same s (id / sites) new d lt))))
    (λ (there : k ≡ id / sites → ⊥).
    rw (ne_eqb id (get_or s k d).id (apart_by_place home sites s id k d n e within there))
    (sym (get_or-set_other s (id / sites) k new d there)))
    (cases_eq k (id / sites)))

pub numbered-set : (home sites : ℕ) (s : List Segment) (place : ℕ) (new : Segment) → IsNumbered home sites s → new.id ≡ place * sites + home → place < length s → IsNumbered home sites (set s place new)
numbered-set home sites s place new n e lt = record {
  below = n.below;
  each = λ k d inside.
      ⊎_elim (λ (here : k ≡ place). rw here (rw (get_or-set_same s place new d lt) e))
      (λ (there : k ≡ place → ⊥). rw (get_or-set_other s place k new d there) (n.each k d (let h = length-set s place new in omega (arith, h))))
      (cases_eq k place);
}

-- what was purged from stays so where a live record changes
pub purged-set : (s : List Segment) (place : ℕ) (new : Segment) (d : Segment) (id : ℕ) → new.id ≡ (get_or s place d).id → is_purged_from s new.id ≡ false → is_purged_from s id ≡ true → is_purged_from (set s place new) id ≡ true
purged-set s place new d id same alive gone =
    ⊎_elim (λ (e : id ≡ new.id). absurd (false≢true (sym alive ∙ ap (is_purged_from s) (sym e) ∙ gone)))
    (λ (ne : id ≡ new.id → ⊥).
    ap is_destroyed (find_past (λ g. id == g.id) s place new d (ne_eqb id (get_or s place d).id (λ h. ne (h ∙ sym same))) (ne_eqb id new.id ne)) ∙ gone)
    (cases_eq id new.id)

-- what leaves the index: the key of before, where it isn't that of after
abbrev pub freed : ℕ → ℕ → (ℕ → Option ℕ) → ℕ → Option ℕ
freed before after places key = if not (before == after) && (before == key) then None else places key

freed_keeps : (before after key : ℕ) (places : ℕ → Option ℕ) → (before ≡ key → before ≡ after) → freed before after places key ≡ places key
freed_keeps before after key places h =
    ⊎_elim (λ (e : before ≡ key). rw (eq-eqb before after (h e)) refl)
    (λ (ne : before ≡ key → ⊥). rw (ne_eqb before key ne) (only (not (before == after)) (places key)))
    (cases_eq before key)
  where
    only : (b : Bool) (o : Option ℕ) → (if b && false then None else o) ≡ o
    only true o = refl
    only false o = refl

freed_some : (before after key place : ℕ) (places : ℕ → Option ℕ) → freed before after places key ≡ Some place → (places key ≡ Some place) × (before ≡ key → before ≡ after)
freed_some before after key place places h =
    ⊎_elim (λ (same : before ≡ after). (sym (freed_keeps before after key places (λ _. same)) ∙ h, λ _. same))
    (λ (other : before ≡ after → ⊥).
    ⊎_elim (λ (e : before ≡ key). absurd (none-some place (sym (rw (ne_eqb before after other, eq-eqb before key e) refl) ∙ h)))
    (λ (ne : before ≡ key → ⊥). (sym (freed_keeps before after key places (λ e. absurd (ne e))) ∙ h, λ e. absurd (ne e)))
    (cases_eq before key))
    (cases_eq before after)

-- a record with the same key, or with none where the key has gone from the index
pub indexed-set : (s : List Segment) (place : ℕ) (new old : Segment) (places later : ℕ → Option ℕ) → place < length s → IsIndexed s places → ((d : Segment) → get_or s place d ≡ old) → (new.key ≡ old.key) ⊎ (new.key ≡ 0)
    → ((key : ℕ) → later key ≡ freed old.key new.key places key) → IsIndexed (set s place new) later
indexed-set s place new old places later lt index here kept gone = record {
  keyed = λ k d inside has_key.
      ⊎_elim (λ (e : k ≡ place).
      let is_new : get_or (set s place new) k d ≡ new = rw e (get_or-set_same s place new d lt) in
      let same_key : new.key ≡ old.key = ⊎_elim (λ h. h) (λ zero_key. absurd (has_key (ap (λ (g : Segment). g.key) is_new ∙ zero_key))) kept in
      let nonzero : (get_or s place d).key ≢ 0 = λ h. has_key (ap (λ (g : Segment). g.key) is_new ∙ same_key ∙ ap (λ (g : Segment). g.key) (sym (here d)) ∙ h) in
      ap (λ (g : Segment). later g.key) is_new ∙ gone new.key ∙ freed_keeps old.key new.key new.key places (λ _. sym same_key)
      ∙ ap places (same_key ∙ ap (λ (g : Segment). g.key) (sym (here d))) ∙ index.keyed place d lt nonzero ∙ ap Some (sym e))
      (λ (ne : k ≡ place → ⊥).
      let is_old : get_or (set s place new) k d ≡ get_or s k d = get_or-set_other s place k new d ne in
      let within : k < length s = let h = length-set s place new in omega (arith, h) in
      let nonzero : (get_or s k d).key ≢ 0 = λ h. has_key (ap (λ (g : Segment). g.key) is_old ∙ h) in
      let found : places (get_or s k d).key ≡ Some k = index.keyed k d within nonzero in
      let apart : old.key ≡ (get_or s k d).key → ⊥ = λ h.
      (let key_of_here : (get_or s place d).key ≡ (get_or s k d).key = ap (λ (g : Segment). g.key) (here d) ∙ h in
      ne (same_Some k place (sym found ∙ ap places (sym key_of_here) ∙ index.keyed place d lt (λ z. nonzero (sym key_of_here ∙ z))))) in
      ap (λ (g : Segment). later g.key) is_old ∙ gone (get_or s k d).key ∙ freed_keeps old.key new.key (get_or s k d).key places (λ h. absurd (apart h)) ∙ found)
      (cases_eq k place);
  within = λ key k h.
      let before = freed_some old.key new.key key k places (sym (gone key) ∙ h) in
      let inside = index.within key k before.0 in let long = length-set s place new in omega (arith, inside, long);
  own = λ key k d h.
      let before = freed_some old.key new.key key k places (sym (gone key) ∙ h) in
      let owned = index.own key k d before.0 in
      ⊎_elim (λ (e : k ≡ place).
      let is_old : old.key ≡ key = ap (λ (g : Segment). g.key) (sym (here d)) ∙ ap (λ n. (get_or s n d).key) (sym e) ∙ owned in
      let is_new : get_or (set s place new) k d ≡ new = rw e (get_or-set_same s place new d lt) in
      ap (λ (g : Segment). g.key) is_new ∙ sym (before.1 is_old) ∙ is_old)
      (λ (ne : k ≡ place → ⊥). ap (λ (g : Segment). g.key) (get_or-set_other s place k new d ne) ∙ owned)
      (cases_eq k place);
}

-- the record put anew is found
pub with_id_replaced : (s : List Segment) (id : ℕ) (old new : Segment) → with_id id s ≡ Some old → new.id ≡ id → with_id id (replaced id new s) ≡ Some new
with_id_replaced [] id old new found own = absurd (none-some old found)
with_id_replaced (g ∷ s) id old new found own =
    ⊎_elim (λ (here : (id == g.id) ≡ true). rw (here, eq-eqb id new.id (sym own)) refl)
    (λ (there : (id == g.id) ≡ false). rw (there, there) (with_id_replaced s id old new (sym (rw there refl) ∙ found) own))
    (cases_Bool (id == g.id))

pub with_key_found : (s : List Segment) (places : ℕ → Option ℕ) (key place : ℕ) (d : Segment) → IsIndexed s places → key ≢ 0 → places key ≡ Some place → with_key key s ≡ Some (get_or s place d)
with_key_found s places key place d index nonzero found =
    let within : place < length s = index.within key place found in
    find_here (λ g. key == g.key) s place d within
    (λ k before. ne_eqb key (get_or s k d).key (λ e.
    let lead : places (get_or s k d).key ≡ Some k = index.keyed k d (omega (arith, within, before)) (λ z. nonzero (e ∙ z)) in
    let same : place ≡ k = same_Some place k (sym found ∙ ap places e ∙ lead) in omega (arith, same, before)))
    (eq-eqb key (get_or s place d).key (sym (index.own key place d found)))

pub with_key_missing : (s : List Segment) (places : ℕ → Option ℕ) (key : ℕ) → IsIndexed s places → key ≢ 0 → places key ≡ None → with_key key s ≡ None
with_key_missing s places key index nonzero none =
    find_nowhere (λ g. key == g.key) s nobody
    (λ k within. ne_eqb key (get_or s k nobody).key (λ e.
    none-some k (sym none ∙ ap places e ∙ index.keyed k nobody within (λ z. nonzero (e ∙ z)))))
