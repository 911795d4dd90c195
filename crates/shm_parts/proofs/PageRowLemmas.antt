-- Pages at places, some of which are empty: one page less, one more, another value, and the empty places given up.
use Rattle.std.proofs.Common.{◌≡◌, ℕ, zero, suc, ◌+◌, ◌<◌, ◌≤◌, Bool, true, false, cond, not, ◌&&◌, if◌then◌else◌, filter, List, [], ◌∷◌, ◌++◌, take, length, slice_get, slice_set, slice_index_or, Option, None, Some, is_some, refl, sym, ap, subst, ◌∙◌, arith, true≢false}
use Rattle.std.proofs.lemmas.Bool.{and_from, and_parts}
use Rattle.std.proofs.lemmas.Bool.Decides.{nat_tests}
use Rattle.std.proofs.lemmas.Option.{none-some, same_Some, slice_get_read}
use Rattle.std.proofs.lemmas.List.{take_all, take_more}
use Rattle.std.specs.Option.{option_map, option_map_or}
use Rattle.std.specs.Map.{lookup, remove_entry}
use Rattle.indexmap.specs.IndexMap.{insert_entry}
use Rattle.shm_place.specs.declared.page_id.PageId.{PageId}
use Rattle.shm_place.specs.Page.{same_page}
use Rattle.shm_parts.specs.OrderedPages.{IsIndexed, holds, is_apart, is_found, moved_last, place_in, standing, without}
use Rattle.shm_parts.proofs.EntryLemmas.{page-same, same-page}
use Rattle.shm_parts.proofs.OrderedPagesLemmas.{insert-new}

abbrev after : Option ℕ → Option ℕ
after o = option_map (λ n. suc n) o

-- ---- where a search goes on

first-holds : (b : Bool) (o : Option ℕ) → cond b (Some 0) (after o) ≡ Some 0 → b ≡ true
first-holds true o h = refl
first-holds false None h = absurd (none-some 0 h)
first-holds false (Some n) h = let no : suc n ≡ 0 = same_Some (suc n) 0 h in absurd (omega (arith, no))

later-holds : (b : Bool) (o : Option ℕ) (k : ℕ) → cond b (Some 0) (after o) ≡ Some (suc k) → (b ≡ false) × (o ≡ Some k)
later-holds true o k h = let no : 0 ≡ suc k = same_Some 0 (suc k) h in absurd (omega (arith, no))
later-holds false None k h = absurd (none-some (suc k) h)
later-holds false (Some n) k h =
    let more : suc n ≡ suc k = same_Some (suc n) (suc k) h in
    let same : n ≡ k = omega (arith, more) in
    (refl, ap Some same)

none-holds : (b : Bool) (o : Option ℕ) → cond b (Some 0) (after o) ≡ None → (b ≡ false) × (o ≡ None)
none-holds true o h = absurd (none-some 0 (sym h))
none-holds false None h = (refl, refl)
none-holds false (Some n) h = absurd (none-some (suc n) (sym h))

no-place : (b : Bool) (o : Option ℕ) → b ≡ false → o ≡ None → cond b (Some 0) (after o) ≡ None
no-place b o other none = ap (λ c. cond c (Some 0) (after o)) other ∙ ap after none

nowhere : (o : Option ℕ) → not (is_some o) ≡ true → o ≡ None
nowhere None h = refl
nowhere (Some n) h = absurd (true≢false (sym h))

pub same-sym : (p q : PageId) → same_page p q ≡ same_page q p
same-sym p q = grind (arith, nat_tests)

after-cond : (b : Bool) (n : ℕ) (o : Option ℕ) → after (cond b (Some n) o) ≡ cond b (Some (suc n)) (after o)
after-cond true n o = refl
after-cond false n o = refl

after-none : (b : Bool) (o : Option ℕ) → after (cond b None o) ≡ cond b None (after o)
after-none true o = refl
after-none false o = refl

-- two pages that are not the same are not both this one
both-not : (page other third : PageId) → same_page page third ≡ false → same_page page other ≡ true → same_page other third ≡ true → ⊥
both-not page other third differ one two = true≢false (sym (ap (λ p. same_page p third) (page-same page other one) ∙ two) ∙ differ)

later_less : (b c : Bool) (o now : Option ℕ) → (b ≡ true → c ≡ true → ⊥) → now ≡ cond b None o → cond c (Some 0) (after now) ≡ cond b None (cond c (Some 0) (after o))
later_less true true o now apart is = absurd (apart refl refl)
later_less true false o now apart is = ap after is
later_less false true o now apart is = refl
later_less false false o now apart is = ap after is

later_more : (b c : Bool) (n : ℕ) (o now : Option ℕ) → (b ≡ true → c ≡ true → ⊥) → now ≡ cond b (Some n) o
    → cond c (Some 0) (after now) ≡ cond b (Some (suc n)) (cond c (Some 0) (after o))
later_more true true n o now apart is = absurd (apart refl refl)
later_more true false n o now apart is = ap after is
later_more false true n o now apart is = refl
later_more false false n o now apart is = ap after is

placed-anew : (b : Bool) (n : ℕ) (o : Option ℕ) → cond b (Some n) o ≡ cond b (Some n) (cond b None o)
placed-anew true n o = refl
placed-anew false n o = refl

abbrev Place : Type 0 → Type 0
Place V = Option (PageId × V)

length-push : {X : Type 0} (xs : List X) (x : X) → length (xs ++ x ∷ []) ≡ suc (length xs)
length-push [] x = refl
length-push (y ∷ xs) x = ap suc (length-push xs x)

length-put : {X : Type 0} (k : ℕ) (x : X) (xs : List X) → length (slice_set xs k x) ≡ length xs
length-put k x [] = refl
length-put zero x (y ∷ xs) = refl
length-put (suc k) x (y ∷ xs) = ap suc (length-put k x xs)

length-first : {X : Type 0} (k : ℕ) (xs : List X) → k < length xs → length (take k xs) ≡ k
length-first k [] less = absurd (omega (arith, less))
length-first zero (x ∷ xs) less = refl
length-first (suc k) (x ∷ xs) less = ap suc (length-first k xs (omega (arith, less)))

module _ {V : Type 0} where
  -- ---- none

  pub absent-lookup : (page : PageId) (rows : List (Place V)) → place_in page rows ≡ None → lookup (same_page page) (standing rows) ≡ None
  absent-lookup page [] h = refl
  absent-lookup page (None ∷ rows) h = absent-lookup page rows (none-holds false (place_in page rows) h).1
  absent-lookup page (Some e ∷ rows) h =
      let parts = none-holds (same_page page e.0) (place_in page rows) h in
      ap (λ b. cond b (Some e.1) (lookup (same_page page) (standing rows))) parts.0 ∙ absent-lookup page rows parts.1

  lookup_step : (b : Bool) (v : V) (o : Option V) → cond b (Some v) o ≡ None → (b ≡ false) × (o ≡ None)
  lookup_step true v o h = absurd (none-some v (sym h))
  lookup_step false v o h = (refl, h)

  pub absent-place : (page : PageId) (rows : List (Place V)) → lookup (same_page page) (standing rows) ≡ None → place_in page rows ≡ None
  absent-place page [] h = refl
  absent-place page (None ∷ rows) h = ap after (absent-place page rows h)
  absent-place page (Some e ∷ rows) h =
      let parts = lookup_step (same_page page e.0) e.1 (lookup (same_page page) (standing rows)) h in
      no-place (same_page page e.0) (place_in page rows) parts.0 (absent-place page rows parts.1)

  pub absent-without : (page : PageId) (rows : List (Place V)) → place_in page rows ≡ None → without page (standing rows) ≡ standing rows
  absent-without page [] h = refl
  absent-without page (None ∷ rows) h = absent-without page rows (none-holds false (place_in page rows) h).1
  absent-without page (Some e ∷ rows) h =
      let parts = none-holds (same_page page e.0) (place_in page rows) h in
      ap (λ b. cond (not b) (e ∷ without page (standing rows)) (without page (standing rows))) parts.0 ∙ ap (λ l. e ∷ l) (absent-without page rows parts.1)

  pub absent-removed : (page : PageId) (rows : List (Place V)) → place_in page rows ≡ None → remove_entry (same_page page) (standing rows) ≡ standing rows
  absent-removed page [] h = refl
  absent-removed page (None ∷ rows) h = absent-removed page rows (none-holds false (place_in page rows) h).1
  absent-removed page (Some e ∷ rows) h =
      let parts = none-holds (same_page page e.0) (place_in page rows) h in
      ap (λ b. cond b (standing rows) (e ∷ remove_entry (same_page page) (standing rows))) parts.0 ∙ ap (λ l. e ∷ l) (absent-removed page rows parts.1)

  -- ---- apart

  alone : (e : PageId × V) (rows : List (Place V)) → is_apart (Some e ∷ rows) ≡ true → (place_in e.0 rows ≡ None) × (is_apart rows ≡ true)
  alone e rows h =
      let parts = and_parts (not (is_some (place_in e.0 rows))) (is_apart rows) h in
      (nowhere (place_in e.0 rows) parts.0, parts.1)

  apart-from : (e : PageId × V) (rows : List (Place V)) → place_in e.0 rows ≡ None → is_apart rows ≡ true → is_apart (Some e ∷ rows) ≡ true
  apart-from e rows none rest = and_from (not (is_some (place_in e.0 rows))) (is_apart rows) (ap (λ o. not (is_some o)) none) rest

  -- ---- what stands at a page's place

  pub place-within : (page : PageId) (k : ℕ) (rows : List (Place V)) → place_in page rows ≡ Some k → k < length rows
  place-within page k [] h = absurd (none-some k h)
  place-within page zero (row ∷ rows) h = omega arith
  place-within page (suc k) (row ∷ rows) h =
      let less = place-within page k rows (later-holds (holds page row) (place_in page rows) k h).1 in
      omega (arith, less)

  pub place-holds : (page : PageId) (k : ℕ) (row : Place V) (rows : List (Place V)) → place_in page rows ≡ Some k → slice_get rows k ≡ Some row → holds page row ≡ true
  place-holds page k row [] h at = absurd (none-some k h)
  place-holds page zero row (r ∷ rows) h at =
      ap (holds page) (sym (same_Some r row at)) ∙ first-holds (holds page r) (place_in page rows) h
  place-holds page (suc k) row (r ∷ rows) h at = place-holds page k row rows (later-holds (holds page r) (place_in page rows) k h).1 at

  pub value-there : (page : PageId) (k : ℕ) (row : Place V) (rows : List (Place V)) → place_in page rows ≡ Some k → slice_get rows k ≡ Some row
      → lookup (same_page page) (standing rows) ≡ option_map (λ e. e.1) row
  value-there page k row [] h at = absurd (none-some k h)
  value-there page zero row (None ∷ rows) h at = absurd (true≢false (sym (first-holds false (place_in page rows) h)))
  value-there page zero row (Some e ∷ rows) h at =
      ap (λ b. cond b (Some e.1) (lookup (same_page page) (standing rows))) (first-holds (same_page page e.0) (place_in page rows) h)
      ∙ ap (option_map (λ (e : PageId × V). e.1)) (same_Some (Some e) row at)
  value-there page (suc k) row (None ∷ rows) h at = value-there page k row rows (later-holds false (place_in page rows) k h).1 at
  value-there page (suc k) row (Some e ∷ rows) h at =
      let parts = later-holds (same_page page e.0) (place_in page rows) k h in
      ap (λ b. cond b (Some e.1) (lookup (same_page page) (standing rows))) parts.0 ∙ value-there page k row rows parts.1 at

  -- ---- one page less

  pub less-removed : (page : PageId) (k : ℕ) (rows : List (Place V)) → place_in page rows ≡ Some k → standing (slice_set rows k None) ≡ remove_entry (same_page page) (standing rows)
  less-removed page k [] h = absurd (none-some k h)
  less-removed page zero (None ∷ rows) h = absurd (true≢false (sym (first-holds false (place_in page rows) h)))
  less-removed page zero (Some e ∷ rows) h =
      sym (ap (λ b. cond b (standing rows) (e ∷ remove_entry (same_page page) (standing rows))) (first-holds (same_page page e.0) (place_in page rows) h))
  less-removed page (suc k) (None ∷ rows) h = less-removed page k rows (later-holds false (place_in page rows) k h).1
  less-removed page (suc k) (Some e ∷ rows) h =
      let parts = later-holds (same_page page e.0) (place_in page rows) k h in
      ap (λ l. e ∷ l) (less-removed page k rows parts.1)
      ∙ sym (ap (λ b. cond b (standing rows) (e ∷ remove_entry (same_page page) (standing rows))) parts.0)

  pub less-without : (page : PageId) (k : ℕ) (rows : List (Place V)) → is_apart rows ≡ true → place_in page rows ≡ Some k → standing (slice_set rows k None) ≡ without page (standing rows)
  less-without page k [] a h = absurd (none-some k h)
  less-without page zero (None ∷ rows) a h = absurd (true≢false (sym (first-holds false (place_in page rows) h)))
  less-without page zero (Some e ∷ rows) a h =
      let same = first-holds (same_page page e.0) (place_in page rows) h in
      let none : place_in page rows ≡ None = ap (λ p. place_in p rows) (page-same page e.0 same) ∙ (alone e rows a).0 in
      sym (ap (λ b. cond (not b) (e ∷ without page (standing rows)) (without page (standing rows))) same ∙ absent-without page rows none)
  less-without page (suc k) (None ∷ rows) a h = less-without page k rows a (later-holds false (place_in page rows) k h).1
  less-without page (suc k) (Some e ∷ rows) a h =
      let parts = later-holds (same_page page e.0) (place_in page rows) k h in
      ap (λ l. e ∷ l) (less-without page k rows (alone e rows a).1 parts.1)
      ∙ sym (ap (λ b. cond (not b) (e ∷ without page (standing rows)) (without page (standing rows))) parts.0)

  pub less-count : (page : PageId) (k : ℕ) (rows : List (Place V)) → place_in page rows ≡ Some k → length (standing rows) ≡ suc (length (standing (slice_set rows k None)))
  less-count page k [] h = absurd (none-some k h)
  less-count page zero (None ∷ rows) h = absurd (true≢false (sym (first-holds false (place_in page rows) h)))
  less-count page zero (Some e ∷ rows) h = refl
  less-count page (suc k) (None ∷ rows) h = less-count page k rows (later-holds false (place_in page rows) k h).1
  less-count page (suc k) (Some e ∷ rows) h = ap suc (less-count page k rows (later-holds (same_page page e.0) (place_in page rows) k h).1)

  less-none : (page : PageId) (k : ℕ) (rows : List (Place V)) → place_in page rows ≡ None → place_in page (slice_set rows k None) ≡ None
  less-none page k [] h = refl
  less-none page zero (row ∷ rows) h = ap after (none-holds (holds page row) (place_in page rows) h).1
  less-none page (suc k) (row ∷ rows) h =
      let parts = none-holds (holds page row) (place_in page rows) h in
      no-place (holds page row) (place_in page (slice_set rows k None)) parts.0 (less-none page k rows parts.1)

  pub less-apart : (k : ℕ) (rows : List (Place V)) → is_apart rows ≡ true → is_apart (slice_set rows k None) ≡ true
  less-apart k [] a = refl
  less-apart zero (None ∷ rows) a = a
  less-apart zero (Some e ∷ rows) a = (alone e rows a).1
  less-apart (suc k) (None ∷ rows) a = less-apart k rows a
  less-apart (suc k) (Some e ∷ rows) a =
      let parts = alone e rows a in
      apart-from e (slice_set rows k None) (less-none e.0 k rows parts.0) (less-apart k rows parts.1)

  first_less : (b : Bool) (page other : PageId) (e : PageId × V) (rows : List (Place V)) → same_page page other ≡ b → page ≡ e.0 → place_in e.0 rows ≡ None
      → after (place_in other rows) ≡ cond b None (cond (same_page other e.0) (Some 0) (after (place_in other rows)))
  first_less true page other e rows same here none =
      ap (λ p. after (place_in p rows)) (sym (page-same page other same) ∙ here) ∙ ap after none
  first_less false page other e rows same here none =
      sym (ap (λ b. cond b (Some 0) (after (place_in other rows))) (ap (same_page other) (sym here) ∙ same-sym other page ∙ same))

  pub less-place : (page other : PageId) (k : ℕ) (rows : List (Place V)) → is_apart rows ≡ true → place_in page rows ≡ Some k
      → place_in other (slice_set rows k None) ≡ cond (same_page page other) None (place_in other rows)
  less-place page other k [] a h = absurd (none-some k h)
  less-place page other zero (None ∷ rows) a h = absurd (true≢false (sym (first-holds false (place_in page rows) h)))
  less-place page other zero (Some e ∷ rows) a h =
      first_less (same_page page other) page other e rows refl (page-same page e.0 (first-holds (same_page page e.0) (place_in page rows) h)) (alone e rows a).0
  less-place page other (suc k) (None ∷ rows) a h =
      ap after (less-place page other k rows a (later-holds false (place_in page rows) k h).1) ∙ after-none (same_page page other) (place_in other rows)
  less-place page other (suc k) (Some e ∷ rows) a h =
      let parts = later-holds (same_page page e.0) (place_in page rows) k h in
      later_less (same_page page other) (same_page other e.0) (place_in other rows) (place_in other (slice_set rows k None))
      (both-not page other e.0 parts.0) (less-place page other k rows (alone e rows a).1 parts.1)

  -- ---- another value

  pub put-standing : (page : PageId) (v : V) (k : ℕ) (rows : List (Place V)) → place_in page rows ≡ Some k → standing (slice_set rows k (Some (page, v))) ≡ insert_entry same_page (standing rows) page v
  put-standing page v k [] h = absurd (none-some k h)
  put-standing page v zero (None ∷ rows) h = absurd (true≢false (sym (first-holds false (place_in page rows) h)))
  put-standing page v zero (Some e ∷ rows) h =
      let same = first-holds (same_page page e.0) (place_in page rows) h in
      ap (λ p. (p, v) ∷ standing rows) (page-same page e.0 same)
      ∙ sym (ap (λ b. if b then (e.0, v) ∷ standing rows else e ∷ insert_entry same_page (standing rows) page v) same)
  put-standing page v (suc k) (None ∷ rows) h = put-standing page v k rows (later-holds false (place_in page rows) k h).1
  put-standing page v (suc k) (Some e ∷ rows) h =
      let parts = later-holds (same_page page e.0) (place_in page rows) k h in
      ap (λ l. e ∷ l) (put-standing page v k rows parts.1)
      ∙ sym (ap (λ b. if b then (e.0, v) ∷ standing rows else e ∷ insert_entry same_page (standing rows) page v) parts.0)

  pub put-place : (page other : PageId) (v : V) (k : ℕ) (rows : List (Place V)) → place_in page rows ≡ Some k → place_in other (slice_set rows k (Some (page, v))) ≡ place_in other rows
  put-place page other v k [] h = absurd (none-some k h)
  put-place page other v zero (None ∷ rows) h = absurd (true≢false (sym (first-holds false (place_in page rows) h)))
  put-place page other v zero (Some e ∷ rows) h =
      ap (λ p. cond (same_page other p) (Some 0) (after (place_in other rows))) (page-same page e.0 (first-holds (same_page page e.0) (place_in page rows) h))
  put-place page other v (suc k) (row ∷ rows) h =
      ap (λ o. cond (holds other row) (Some 0) (after o)) (put-place page other v k rows (later-holds (holds page row) (place_in page rows) k h).1)

  pub put-apart : (page : PageId) (v : V) (k : ℕ) (rows : List (Place V)) → place_in page rows ≡ Some k → is_apart rows ≡ true → is_apart (slice_set rows k (Some (page, v))) ≡ true
  put-apart page v k [] h a = absurd (none-some k h)
  put-apart page v zero (None ∷ rows) h a = absurd (true≢false (sym (first-holds false (place_in page rows) h)))
  put-apart page v zero (Some e ∷ rows) h a =
      ap (λ p. not (is_some (place_in p rows)) && is_apart rows) (page-same page e.0 (first-holds (same_page page e.0) (place_in page rows) h)) ∙ a
  put-apart page v (suc k) (None ∷ rows) h a = put-apart page v k rows (later-holds false (place_in page rows) k h).1 a
  put-apart page v (suc k) (Some e ∷ rows) h a =
      let parts = alone e rows a in
      let rest = (later-holds (same_page page e.0) (place_in page rows) k h).1 in
      apart-from e (slice_set rows k (Some (page, v))) (put-place page e.0 v k rows rest ∙ parts.0) (put-apart page v k rows rest parts.1)

  pub put-count : (page : PageId) (v : V) (k : ℕ) (rows : List (Place V)) → place_in page rows ≡ Some k → length (standing (slice_set rows k (Some (page, v)))) ≡ length (standing rows)
  put-count page v k [] h = absurd (none-some k h)
  put-count page v zero (None ∷ rows) h = absurd (true≢false (sym (first-holds false (place_in page rows) h)))
  put-count page v zero (Some e ∷ rows) h = refl
  put-count page v (suc k) (None ∷ rows) h = put-count page v k rows (later-holds false (place_in page rows) k h).1
  put-count page v (suc k) (Some e ∷ rows) h = ap suc (put-count page v k rows (later-holds (same_page page e.0) (place_in page rows) k h).1)

  -- ---- one page more

  pub more-standing : (row : Place V) (rows : List (Place V)) → standing (rows ++ row ∷ []) ≡ standing rows ++ standing (row ∷ [])
  more-standing row [] = refl
  more-standing row (None ∷ rows) = more-standing row rows
  more-standing row (Some e ∷ rows) = ap (λ l. e ∷ l) (more-standing row rows)

  pub more-place : (e : PageId × V) (other : PageId) (rows : List (Place V)) → place_in e.0 rows ≡ None
      → place_in other (rows ++ Some e ∷ []) ≡ cond (same_page e.0 other) (Some (length rows)) (place_in other rows)
  more-place e other [] h = ap (λ b. cond b (Some 0) None) (same-sym other e.0)
  more-place e other (None ∷ rows) h =
      ap after (more-place e other rows (none-holds false (place_in e.0 rows) h).1) ∙ after-cond (same_page e.0 other) (length rows) (place_in other rows)
  more-place e other (Some f ∷ rows) h =
      let parts = none-holds (same_page e.0 f.0) (place_in e.0 rows) h in
      later_more (same_page e.0 other) (same_page other f.0) (length rows) (place_in other rows) (place_in other (rows ++ Some e ∷ []))
      (both-not e.0 other f.0 parts.0) (more-place e other rows parts.1)

  pub empty-place : (other : PageId) (rows : List (Place V)) → place_in other (rows ++ None ∷ []) ≡ place_in other rows
  empty-place other [] = refl
  empty-place other (row ∷ rows) = ap (λ o. cond (holds other row) (Some 0) (after o)) (empty-place other rows)

  pub more-apart : (e : PageId × V) (rows : List (Place V)) → place_in e.0 rows ≡ None → is_apart rows ≡ true → is_apart (rows ++ Some e ∷ []) ≡ true
  more-apart e [] h a = refl
  more-apart e (None ∷ rows) h a = more-apart e rows (none-holds false (place_in e.0 rows) h).1 a
  more-apart e (Some f ∷ rows) h a =
      let parts = none-holds (same_page e.0 f.0) (place_in e.0 rows) h in
      let rest = alone f rows a in
      apart-from f (rows ++ Some e ∷ [])
      (more-place e f.0 rows parts.1 ∙ ap (λ b. cond b (Some (length rows)) (place_in f.0 rows)) parts.0 ∙ rest.0)
      (more-apart e rows parts.1 rest.1)

  empty-standing : (rows : List (Place V)) → standing (rows ++ None ∷ []) ≡ standing rows
  empty-standing [] = refl
  empty-standing (None ∷ rows) = empty-standing rows
  empty-standing (Some e ∷ rows) = ap (λ l. e ∷ l) (empty-standing rows)

  -- ---- the empty places given up

  pub swept-standing : (rows : List (Place V)) → standing (filter is_some rows) ≡ standing rows
  swept-standing [] = refl
  swept-standing (None ∷ rows) = swept-standing rows
  swept-standing (Some e ∷ rows) = ap (λ l. e ∷ l) (swept-standing rows)

  pub swept-count : (rows : List (Place V)) → length (filter is_some rows) ≡ length (standing rows)
  swept-count [] = refl
  swept-count (None ∷ rows) = swept-count rows
  swept-count (Some e ∷ rows) = ap suc (swept-count rows)

  pub standing-within : (rows : List (Place V)) → length (standing rows) ≤ length rows
  standing-within [] = omega arith
  standing-within (None ∷ rows) = let less = standing-within rows in omega (arith, less)
  standing-within (Some e ∷ rows) = let less = standing-within rows in omega (arith, less)

  pub swept-none : (page : PageId) (rows : List (Place V)) → place_in page rows ≡ None → place_in page (filter is_some rows) ≡ None
  swept-none page [] h = refl
  swept-none page (None ∷ rows) h = swept-none page rows (none-holds false (place_in page rows) h).1
  swept-none page (Some e ∷ rows) h =
      let parts = none-holds (same_page page e.0) (place_in page rows) h in
      no-place (same_page page e.0) (place_in page (filter is_some rows)) parts.0 (swept-none page rows parts.1)

  pub swept-apart : (rows : List (Place V)) → is_apart rows ≡ true → is_apart (filter is_some rows) ≡ true
  swept-apart [] a = refl
  swept-apart (None ∷ rows) a = swept-apart rows a
  swept-apart (Some e ∷ rows) a =
      let parts = alone e rows a in
      apart-from e (filter is_some rows) (swept-none e.0 rows parts.0) (swept-apart rows parts.1)

  -- ---- the pages before a place

  stands-somewhere : (i : ℕ) (e : PageId × V) (rows : List (Place V)) → slice_get rows i ≡ Some (Some e) → place_in e.0 rows ≡ None → ⊥
  stands-somewhere i e [] at h = none-some (Some e) at
  stands-somewhere zero e (row ∷ rows) at h =
      true≢false (sym (ap (holds e.0) (same_Some row (Some e) at) ∙ same-page e.0) ∙ (none-holds (holds e.0 row) (place_in e.0 rows) h).0)
  stands-somewhere (suc i) e (row ∷ rows) at h = stands-somewhere i e rows at (none-holds (holds e.0 row) (place_in e.0 rows) h).1

  before_step : (b : Bool) (e f : PageId × V) (i : ℕ) (o : Option ℕ) (rows : List (Place V)) → same_page e.0 f.0 ≡ b → place_in f.0 rows ≡ None → slice_get rows i ≡ Some (Some e) → o ≡ None
      → cond b (Some 0) (after o) ≡ None
  before_step true e f i o rows same none at rest = absurd (stands-somewhere i e rows at (ap (λ p. place_in p rows) (page-same e.0 f.0 same) ∙ none))
  before_step false e f i o rows same none at rest = ap after rest

  pub none-before : (i : ℕ) (e : PageId × V) (rows : List (Place V)) → is_apart rows ≡ true → slice_get rows i ≡ Some (Some e) → place_in e.0 (take i rows) ≡ None
  none-before i e [] a at = absurd (none-some (Some e) at)
  none-before zero e (row ∷ rows) a at = refl
  none-before (suc i) e (None ∷ rows) a at = ap after (none-before i e rows a at)
  none-before (suc i) e (Some f ∷ rows) a at =
      let parts = alone f rows a in
      before_step (same_page e.0 f.0) e f i (place_in e.0 (take i rows)) rows refl parts.0 at (none-before i e rows parts.1 at)

  pub read-value : (page : PageId) (k : ℕ) (row : Place V) (rows : List (Place V)) → place_in page rows ≡ Some k → row ≡ slice_index_or rows k row
      → lookup (same_page page) (standing rows) ≡ option_map (λ e. e.1) row
  read-value page k row rows h read = value-there page k row rows h (slice_get_read rows (length rows) k row refl (place-within page k rows h) read)

  pub row-is : (page : PageId) (k : ℕ) (row : Place V) (rows : List (Place V)) → place_in page rows ≡ Some k → row ≡ slice_index_or rows k row
      → (v : V) × ((row ≡ Some (page, v)) × (lookup (same_page page) (standing rows) ≡ Some v))
  row-is page k row rows h read =
      by row (place-holds page k row rows h (slice_get_read rows (length rows) k row refl (place-within page k rows h) read)) (read-value page k row rows h read)
    where
      by : (row : Place V) → holds page row ≡ true → lookup (same_page page) (standing rows) ≡ option_map (λ e. e.1) row
          → (v : V) × ((row ≡ Some (page, v)) × (lookup (same_page page) (standing rows) ≡ Some v))
      by None held value = absurd (true≢false (sym held))
      by (Some e) held value = (e.1, ((λ i. Some (sym (page-same page e.0 held) i, e.1)), value))

  -- ---- the map of places

  pub indexed-less : (page : PageId) (k : ℕ) (places new : List (PageId × ℕ)) (rows : List (Place V)) → IsIndexed places rows → lookup (same_page page) places ≡ Some k
      → ((q : PageId) → lookup (same_page q) new ≡ cond (same_page page q) None (lookup (same_page q) places)) → length new + 1 ≡ length places
      → IsIndexed new (slice_set rows k None)
  indexed-less page k places new rows is at values less =
      let here : place_in page rows ≡ Some k = sym (is.found page) ∙ at in
      let fewer = less-count page k rows here in
      let counted = is.count in
      record {
        found = λ q. values q ∙ ap (cond (same_page page q) None) (is.found q) ∙ sym (less-place page q k rows is.apart here);
        apart = less-apart k rows is.apart;
        count = omega (arith, fewer, counted, less);
      }

  pub indexed-put : (page : PageId) (v : V) (k : ℕ) (places : List (PageId × ℕ)) (rows : List (Place V)) → IsIndexed places rows → lookup (same_page page) places ≡ Some k
      → IsIndexed places (slice_set rows k (Some (page, v)))
  indexed-put page v k places rows is at =
      let here : place_in page rows ≡ Some k = sym (is.found page) ∙ at in
      record {
        found = λ q. is.found q ∙ sym (put-place page q v k rows here);
        apart = put-apart page v k rows here is.apart;
        count = is.count ∙ sym (put-count page v k rows here);
      }

  pub indexed-more : (e : PageId × V) (n : ℕ) (places new : List (PageId × ℕ)) (rows : List (Place V)) → IsIndexed places rows → lookup (same_page e.0) (standing rows) ≡ None
      → n ≡ length rows → new ≡ insert_entry same_page places e.0 n
      → ((q : PageId) → lookup (same_page q) new ≡ cond (same_page e.0 q) (Some n) (lookup (same_page q) places)) → IsIndexed new (rows ++ Some e ∷ [])
  indexed-more e n places new rows is absent here put values =
      let none = absent-place e.0 rows absent in
      record {
        found = λ q. values q ∙ (λ i. cond (same_page e.0 q) (Some (here i)) (is.found q i)) ∙ sym (more-place e q rows none);
        apart = more-apart e rows none is.apart;
        count = ap (λ l. length l) (put ∙ insert-new e.0 n places (is.found e.0 ∙ none)) ∙ length-push places (e.0, n) ∙ ap suc is.count
            ∙ sym (length-push (standing rows) e) ∙ sym (ap (λ l. length l) (more-standing (Some e) rows));
      }

  abbrev BeforeIs : List (PageId × ℕ) → ℕ → List (Place V) → Type 0
  BeforeIs places i rows = is_found places (take i rows) × (length places ≡ length (standing (take i rows)))

  pub before-more : (places new : List (PageId × ℕ)) (i : ℕ) (e : PageId × V) (rows : List (Place V)) → is_apart rows ≡ true → i < length rows → Some e ≡ slice_index_or rows i (Some e)
      → BeforeIs places i rows → new ≡ insert_entry same_page places e.0 i → ((q : PageId) → lookup (same_page q) new ≡ cond (same_page e.0 q) (Some i) (lookup (same_page q) places))
      → BeforeIs new (i + 1) rows
  before-more places new i e rows a less read is put values =
      let none = none-before i e rows a (slice_get_read rows (length rows) i (Some e) refl less read) in
      let split : take (i + 1) rows ≡ take i rows ++ Some e ∷ [] = take_more rows i (Some e) less ∙ ap (λ r. take i rows ++ r ∷ []) (sym read) in (
        (λ q. values q ∙ (λ j. cond (same_page e.0 q) (Some (sym (length-first i rows less) j)) (is.0 q j)) ∙ sym (more-place e q (take i rows) none) ∙ ap (place_in q) (sym split)),
        ap (λ l. length l) (put ∙ insert-new e.0 i places (is.0 e.0 ∙ none)) ∙ length-push places (e.0, i) ∙ ap suc is.1
            ∙ sym (length-push (standing (take i rows)) e) ∙ sym (ap (λ l. length l) (ap standing split ∙ more-standing (Some e) (take i rows))),
      )

  pub before-empty : (places : List (PageId × ℕ)) (i : ℕ) (rows : List (Place V)) → i < length rows → None ≡ slice_index_or rows i None → BeforeIs places i rows → BeforeIs places (i + 1) rows
  before-empty places i rows less read is =
      let split : take (i + 1) rows ≡ take i rows ++ None ∷ [] = take_more rows i None less ∙ ap (λ r. take i rows ++ r ∷ []) (sym read) in (
        (λ q. is.0 q ∙ sym (ap (place_in q) split ∙ empty-place q (take i rows))),
        is.1 ∙ sym (ap (λ l. length l) (ap standing split ∙ empty-standing (take i rows))),
      )

  pub before-all : (places : List (PageId × ℕ)) (i : ℕ) (rows : List (Place V)) → is_apart rows ≡ true → length rows ≤ i → BeforeIs places i rows → IsIndexed places rows
  before-all places i rows a end is =
      let all = take_all i rows end in
      record {
        found = λ q. is.0 q ∙ ap (place_in q) all;
        apart = a;
        count = is.1 ∙ ap (λ l. length (standing l)) all;
      }

  -- ---- a page that moves

  less-itself : (page : PageId) (k : ℕ) (rows : List (Place V)) → is_apart rows ≡ true → place_in page rows ≡ Some k → place_in page (slice_set rows k None) ≡ None
  less-itself page k rows a h = less-place page page k rows a h ∙ ap (λ b. cond b None (place_in page rows)) (same-page page)

  pub moved-standing : (page : PageId) (k : ℕ) (row : Place V) (less rows : List (Place V)) → is_apart rows ≡ true → place_in page rows ≡ Some k → row ≡ slice_index_or rows k row
      → standing less ≡ standing (slice_set rows k None) → standing (less ++ row ∷ []) ≡ moved_last page (standing rows)
  moved-standing page k row less rows a h read same =
      let it = row-is page k row rows h read in
      more-standing row less ∙ ap (λ l. l ++ standing (row ∷ [])) (same ∙ less-without page k rows a h)
      ∙ ap (λ r. without page (standing rows) ++ standing (r ∷ [])) it.1.0
      ∙ sym (ap (λ o. option_map_or (λ v. without page (standing rows) ++ (page, v) ∷ []) o (standing rows)) it.1.1)

  pub indexed-moved : (page : PageId) (k n : ℕ) (row : Place V) (places new : List (PageId × ℕ)) (rows : List (Place V)) → IsIndexed places rows → lookup (same_page page) places ≡ Some k
      → row ≡ slice_index_or rows k row → n ≡ length rows → ((q : PageId) → lookup (same_page q) new ≡ cond (same_page page q) (Some n) (lookup (same_page q) places)) → length new ≡ length places
      → IsIndexed new (slice_set rows k None ++ row ∷ [])
  indexed-moved page k n row places new rows is at read here values same =
      let there : place_in page rows ≡ Some k = sym (is.found page) ∙ at in
      let it = row-is page k row rows there read in
      let less : List (Place V) = slice_set rows k None in
      let none = less-itself page k rows is.apart there in
      let fewer = less-count page k rows there in
      let counted = is.count in
      let long : n ≡ length less = here ∙ sym (length-put k None rows) in
      let joined : length (standing (less ++ Some (page, it.0) ∷ [])) ≡ suc (length (standing less)) = ap (λ l. length l) (more-standing (Some (page, it.0)) less) ∙ length-push (standing less) (page, it.0) in
      subst (λ r. IsIndexed new (less ++ r ∷ [])) (sym it.1.0) (record {
        found = λ q. values q ∙ ap (cond (same_page page q) (Some n)) (is.found q) ∙ placed-anew (same_page page q) n (place_in q rows)
            ∙ (λ i. cond (same_page page q) (Some (long i)) (sym (less-place page q k rows is.apart there) i)) ∙ sym (more-place (page, it.0) q less none);
        apart = more-apart (page, it.0) less none (less-apart k rows is.apart);
        count = omega (arith, same, counted, fewer, joined);
      })

  pub moved-apart : (page : PageId) (k : ℕ) (row : Place V) (rows : List (Place V)) → is_apart rows ≡ true → place_in page rows ≡ Some k → row ≡ slice_index_or rows k row
      → is_apart (filter is_some (slice_set rows k None) ++ row ∷ []) ≡ true
  moved-apart page k row rows a h read =
      let it = row-is page k row rows h read in
      let less : List (Place V) = slice_set rows k None in
      ap (λ r. is_apart (filter is_some less ++ r ∷ [])) it.1.0
      ∙ more-apart (page, it.0) (filter is_some less) (swept-none page less (less-itself page k rows a h)) (swept-apart less (less-apart k rows a))

  -- the places that are left once the empty ones are given up, with that of the page that moves, are as many as the pages
  pub moved-count : (page : PageId) (k : ℕ) (rows : List (Place V)) → place_in page rows ≡ Some k → length (standing rows) ≡ suc (length (filter is_some (slice_set rows k None)))
  moved-count page k rows h = less-count page k rows h ∙ ap suc (sym (swept-count (slice_set rows k None)))

  pub moved-found : (page : PageId) (v : V) (es : List (PageId × V)) → lookup (same_page page) es ≡ Some v → moved_last page es ≡ without page es ++ (page, v) ∷ []
  moved-found page v es found = ap (λ o. option_map_or (λ w. without page es ++ (page, w) ∷ []) o es) found

  pub moved-none : (page : PageId) (es : List (PageId × V)) → lookup (same_page page) es ≡ None → es ≡ moved_last page es
  moved-none page es none = sym (ap (λ o. option_map_or (λ w. without page es ++ (page, w) ∷ []) o es) none)
