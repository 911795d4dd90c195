-- A table stays one where a segment or a pending purge is taken over; and what a table has can be taken over in turn.
use Rattle.std.proofs.Common.{◌≡◌, ◌≢◌, ℕ, ◌+◌, ◌*◌, ◌%◌, ◌<◌, ◌≤◌, Bool, true, false, not, ◌&&◌, ◌==◌, nat_lt, cond, if◌then◌else◌, List, [], ◌∷◌, ◌++◌, Option, Some, None, is_none, length, take, get_or, sym, ◌∙◌, ap, refl, arith, ⊎_elim}
use Rattle.std.proofs.lemmas.Nat.{mod-mul-add}
use Rattle.std.proofs.lemmas.Bool.{and_parts, and_from, or_left, or_right, cases_eq, eq-eqb, eqb-true, ne_eqb, not_from_false, ltb-true, lt-ltb, false≢true}
use Rattle.std.proofs.lemmas.List.{length-take-le, length_push, get_or-take, get_or_default, get_or_push, get_or_append_left}
use Rattle.std.proofs.lemmas.List.Folds.{find-append}
use Rattle.std.proofs.lemmas.List.Sums.{list_all-from_AllPass, sum_by_push}
use Rattle.std.proofs.lemmas.Option.{same_Some}
use Rattle.shm_place.specs.Limits.{segments_of_a_home}
use Rattle.shm_place.specs.SiteSet.{has_none}
use Rattle.shm_model.specs.Permission.{Segment, destroyed}
use Rattle.shm_model.specs.Kernel.{with_id, with_key, is_destroyed}
use Rattle.shm_keys.specs.Restored.{is_above_all, is_free_key, is_next_purge, is_next_segment}
use Rattle.shm_keys.specs.Table.{IsIndexed, IsNumbered, IsTable, live_count, is_purged_from}
use Rattle.shm_keys.specs.declared.pending_purge.Purge.{Purge}
use Rattle.shm_keys.proofs.Segments.{find_nowhere, nobody}
use Rattle.shm_keys.proofs.Making.{indexed-push, stays_destroyed, with_place}

-- ---- what the tests tell

pub record CanBeNext (home sites : ℕ) (s : List Segment) (g : Segment) : Type 0 where
  pub fewer : length s < segments_of_a_home
  pub own : g.id ≡ length s * sites + home
  pub free : g.key ≢ 0 → with_key g.key s ≡ None

none_of : (o : Option Segment) → is_none o ≡ true → o ≡ None
none_of None h = refl
none_of (Some g) h = absurd (false≢true h)

pub free_key : (key : ℕ) (s : List Segment) → is_free_key key s ≡ true → key ≢ 0 → with_key key s ≡ None
free_key key s free some = none_of (with_key key s) (rw (ne_eqb key 0 some) at free)

pub can_be_next : (home sites : ℕ) (s : List Segment) (g : Segment) → is_next_segment home sites s g ≡ true → CanBeNext home sites s g
can_be_next home sites s g next =
    let both = and_parts (nat_lt (length s) segments_of_a_home && (g.id == length s * sites + home)) (is_free_key g.key s) next in
    let first = and_parts (nat_lt (length s) segments_of_a_home) (g.id == length s * sites + home) both.0 in
    record {
      fewer = ltb-true (length s) segments_of_a_home first.0;
      own = eqb-true g.id (length s * sites + home) first.1;
      free = free_key g.key s both.1;
    }

-- ---- a table stays one

one_more_or_none : (live n m still : ℕ) (gone : Bool) → live ≡ n → m ≡ n + cond (not gone) 1 0 → still ≡ live + (if gone then 0 else 1) → still ≡ m
one_more_or_none live n m still true counted sum more = omega arith
one_more_or_none live n m still false counted sum more = omega arith

pub table-next : (home sites : ℕ) (s : List Segment) (places later : ℕ → Option ℕ) (live still : ℕ) (purges : List Purge) (room larger : ℕ) (new : Segment) → IsTable home sites s places live purges room
    → CanBeNext home sites s new → ((key : ℕ) → later key ≡ with_place new.key (length s) places key) → still ≡ live + (if destroyed new then 0 else 1)
    → still + length purges ≤ larger → IsTable home sites (s ++ (new ∷ [])) later still purges larger
table-next home sites s places later live still purges room larger new t next more counts roomy =
    let long = length_push s new in
    let fewer = next.fewer in
    record {
      few = omega (arith, long, fewer);
      numbered = record {
        below = t.numbered.below;
        each = λ k d inside.
            ⊎_elim (λ (e : k ≡ length s). ap (λ (g : Segment). g.id) (get_or_push s new d k (sym e)) ∙ next.own ∙ ap (λ m. m * sites + home) (sym e))
            (λ (ne : k ≡ length s → ⊥).
            let within : k < length s = omega (arith, long, inside, ne) in
            ap (λ (g : Segment). g.id) (get_or_append_left s (new ∷ []) d k within) ∙ t.numbered.each k d within)
            (cases_eq k (length s));
      };
      indexed = indexed-push s places later new t.indexed next.free more;
      counted = one_more_or_none live (live_count s) (live_count (s ++ (new ∷ []))) still (destroyed new) t.counted (sum_by_push (λ (g : Segment). cond (not (destroyed g)) 1 0) s new) counts;
      rising = t.rising;
      all_missing = t.all_missing;
      purging = λ k d lt. ap is_destroyed (find-append (λ g. (get_or purges k d).id == g.id) s (new ∷ [])) ∙ stays_destroyed (with_id (get_or purges k d).id s) _ (t.purging k d lt);
      roomy = roomy;
    }

-- the same, of the lists as the code leaves them
pub table-taken : (home sites : ℕ) (s grown : List Segment) (places later : ℕ → Option ℕ) (live still : ℕ) (purges after : List Purge) (room larger : ℕ) (new : Segment) → IsTable home sites s places live purges room
    → grown ≡ s ++ (new ∷ []) → after ≡ purges → is_next_segment home sites s new ≡ true → ((key : ℕ) → later key ≡ with_place new.key (length s) places key) → still ≡ live + (if destroyed new then 0 else 1)
    → still + length after ≤ larger → IsTable home sites grown later still after larger
table-taken home sites s grown places later live still purges after room larger new t pushed same next more counts roomy =
    rw (pushed, same) (table-next home sites s places later live still purges room larger new t (can_be_next home sites s new next) more counts (rw same at roomy))

-- ---- what a table has, one after another

shorter : {X : Type 0} (xs : List X) (k : ℕ) → k < length xs → length (take k xs) ≡ k
shorter xs k lt = length-take-le k xs (omega arith)

free_before : (s : List Segment) (places : ℕ → Option ℕ) (k : ℕ) (d : Segment) → IsIndexed s places → k < length s → is_free_key (get_or s k d).key (take k s) ≡ true
free_before s places k d index lt =
    let key : ℕ = (get_or s k d).key in
    ⊎_elim (λ (none : key ≡ 0). or_left (key == 0) (is_none (with_key key (take k s))) (eq-eqb key 0 none))
    (λ (some : key ≡ 0 → ⊥).
    or_right (key == 0) (is_none (with_key key (take k s))) (ap is_none (find_nowhere (λ g. key == g.key) (take k s) d (λ j inside.
    let before : j < k = let short = shorter s k lt in omega (arith, short, inside) in
    let same : get_or (take k s) j d ≡ get_or s j d = get_or-take k s j d before in
    ap (λ (g : Segment). key == g.key) same ∙ ne_eqb key (get_or s j d).key (λ e.
    let leads : places (get_or s j d).key ≡ Some j = index.keyed j d (omega (arith, before, lt)) (λ z. some (e ∙ z)) in
    let both : k ≡ j = same_Some k j (sym (index.keyed k d lt some) ∙ ap places e ∙ leads) in
    omega (arith, both, before))))))
    (cases_eq key 0)

-- each segment can be taken over after those before it
pub each_segment_next : (home sites : ℕ) (s : List Segment) (places : ℕ → Option ℕ) (live : ℕ) (purges : List Purge) (room k : ℕ) (d : Segment) → IsTable home sites s places live purges room
    → k < length s → is_next_segment home sites (take k s) (get_or s k d) ≡ true
each_segment_next home sites s places live purges room k d t lt =
    let g : Segment = get_or s k d in
    let short : length (take k s) ≡ k = shorter s k lt in
    and_from (nat_lt (length (take k s)) segments_of_a_home && (g.id == length (take k s) * sites + home)) (is_free_key g.key (take k s))
    (and_from (nat_lt (length (take k s)) segments_of_a_home) (g.id == length (take k s) * sites + home)
    (lt-ltb (length (take k s)) segments_of_a_home (let few = t.few in omega (arith, short, lt, few)))
    (eq-eqb g.id (length (take k s) * sites + home) (t.numbered.each k d lt ∙ ap (λ n. n * sites + home) (sym short))))
    (free_before s places k d t.indexed lt)

-- each pending purge can be put behind those before it
pub each_purge_next : (home sites : ℕ) (s : List Segment) (places : ℕ → Option ℕ) (live : ℕ) (purges : List Purge) (room k : ℕ) (d : Purge) → IsTable home sites s places live purges room
    → k < length purges → is_next_purge s (take k purges) (get_or purges k d) ≡ true
each_purge_next home sites s places live purges room k d t lt =
    let p : Purge = get_or purges k d in
    let short : length (take k purges) ≡ k = shorter purges k lt in
    and_from (not (has_none p.missing) && is_purged_from s p.id) (is_above_all (take k purges) p.id)
    (and_from (not (has_none p.missing)) (is_purged_from s p.id) (not_from_false (has_none p.missing) (t.all_missing k d lt)) (t.purging k d lt))
    (list_all-from_AllPass (λ q. nat_lt q.id p.id) (take k purges) (λ j e inside.
    let before : j < k = omega (arith, short, inside) in
    let same : get_or (take k purges) j e ≡ get_or purges j d = get_or-take k purges j e before ∙ get_or_default purges j e d (omega (arith, before, lt)) in
    ap (λ (q : Purge). nat_lt q.id p.id) same ∙ lt-ltb (get_or purges j d).id p.id (t.rising j k d before lt)))

-- ---- a segment that another home made

pub not_made_here : (home sites : ℕ) (s : List Segment) (id : ℕ) → IsNumbered home sites s → (id % sites ≡ home → ⊥) → with_id id s ≡ None
not_made_here home sites s id n other =
    find_nowhere (λ g. id == g.id) s nobody (λ k within. ne_eqb id (get_or s k nobody).id (λ e.
    other (ap (λ m. m % sites) (e ∙ n.each k nobody within) ∙ mod-mul-add k sites home n.below)))
