-- Pages at rising places: where a place stands among them, and what is there after one page is put or taken out.
use Rattle.std.proofs.Common.{◌≡◌, ◌==◌, ◌<◌, ◌≤◌, ℕ, zero, suc, nat_lt, nat_le, Bool, true, false, cond, not, List, [], ◌∷◌, length, slice_index_or, slice_set, Option, Some, None, is_some, nat_cmp, Ordering, Less, Equal, Greater, refl, sym, ap, subst, ◌∙◌, true≢false, arith}
use Rattle.std.proofs.lemmas.Bool.Decides.{nat_tests}
use Rattle.std.proofs.lemmas.Bool.{false≢true}
use Rattle.std.proofs.lemmas.List.{get_or-map, length-map}
use Rattle.std.proofs.lemmas.Map.{lookup-none}
use Rattle.std.proofs.lemmas.Map.Keys.{non_decreasing_from_sorted, sorted_head, sorted_tail}
use Rattle.std.specs.BTreeMap.{insert_entry, is_at}
use Rattle.std.specs.List.{AllByRecursion, insert, remove}
use Rattle.std.specs.List.Sorted.{IsNonDecreasingBy, IsStrictlySortedBy}
use Rattle.std.specs.Map.{keys_of, remove_entry}
use Rattle.std.specs.Ordering.{match_ordering}
use Rattle.shm_place.specs.declared.page_id.PageId.{PageId}
use Rattle.shm_parts.proofs.PlaceLemmas.{at-itself, at-same}
use Rattle.shm_parts.specs.Places.{is_behind, leading, page_at}

abbrev pub Row : Type 0
Row = ℕ × PageId

-- ---- how many at the front pass

pub leading_is : {X : Type 0} (p : X → Bool) (xs : List X) (i : ℕ) → i ≤ length xs → ((k : ℕ) (d : X) → k < i → p (slice_index_or xs k d) ≡ true)
    → ((k : ℕ) (d : X) → i ≤ k → k < length xs → p (slice_index_or xs k d) ≡ false) → i ≡ leading p xs
leading_is p [] i le below above = omega (arith, le)
leading_is p (x ∷ xs) zero le below above = sym (ap (λ b. cond b (suc (leading p xs)) 0) (above 0 x (omega arith) (omega arith)))
leading_is p (x ∷ xs) (suc i) le below above =
    ap suc (leading_is p xs i (omega (arith, le)) (λ k d lt. below (suc k) d (omega (arith, lt))) (λ k d from lt. above (suc k) d (omega (arith, from)) (omega (arith, lt))))
    ∙ sym (ap (λ b. cond b (suc (leading p xs)) 0) (below 0 x (omega arith)))

pub leading_none : {X : Type 0} (xs : List X) → 0 ≡ leading (λ x. false) xs
leading_none [] = refl
leading_none (x ∷ xs) = refl

-- ---- numbers

at_flip : (n k : ℕ) → is_at (nat_cmp n) k ≡ is_at (nat_cmp k) n
at_flip n k = grind (arith, nat_tests)

at_is_eq : (n k : ℕ) → (k == n) ≡ is_at (nat_cmp n) k
at_is_eq n k = grind (arith, nat_tests)

pub less_apart : (n k : ℕ) → nat_cmp n k ≡ Less → is_at (nat_cmp n) k ≡ false
less_apart n k h = grind (arith, nat_tests)

pub equal_same : (n k : ℕ) → nat_cmp n k ≡ Equal → n ≡ k
equal_same n k h = grind (arith, nat_tests)

equal_at : (n k : ℕ) → nat_cmp n k ≡ Equal → is_at (nat_cmp n) k ≡ true
equal_at n k h = grind (arith, nat_tests)

greater_apart : (n k : ℕ) → nat_cmp n k ≡ Greater → is_at (nat_cmp n) k ≡ false
greater_apart n k h = grind (arith, nat_tests)

pub greater_turned : (n k : ℕ) → nat_cmp n k ≡ Greater → nat_cmp k n ≡ Less
greater_turned n k h = grind (arith, nat_tests)

less_less : (n k j : ℕ) → nat_cmp n k ≡ Less → nat_cmp k j ≡ Less → nat_cmp n j ≡ Less
less_less n k j h i = grind (arith, nat_tests)

below_greater : (n k : ℕ) → nat_lt k n ≡ true → nat_cmp n k ≡ Greater
below_greater n k h = grind (arith, nat_tests)

apart_less : (n k : ℕ) → nat_lt k n ≡ false → is_at (nat_cmp n) k ≡ false → nat_cmp n k ≡ Less
apart_less n k h i = grind (arith, nat_tests)

itself_equal : (n k : ℕ) → k ≡ n → nat_cmp n k ≡ Equal
itself_equal n k h = grind (arith, nat_tests)

not_below_itself : (n k : ℕ) → nat_lt k n ≡ true → k ≡ n → false ≡ true
not_below_itself n k h i = grind (arith, nat_tests)

before_le : (n k : ℕ) → nat_lt n k ≡ true → n ≤ k
before_le n k h = grind (arith, nat_tests)

pub less_le : (n k : ℕ) → nat_cmp n k ≡ Less → n ≤ k
less_le n k h = grind (arith, nat_tests)

-- a place that is not behind the last one, and one that is
behind_apart : (last : Option ℕ) (k j : ℕ) → is_behind last k ≡ true → not (is_behind last j) ≡ true → is_at (nat_cmp k) j ≡ false
behind_apart None k j h i = absurd (false≢true i)
behind_apart (Some m) k j h i = grind (arith, nat_tests)

behind_not : (b : Bool) → not b ≡ false → b ≡ true
behind_not true h = refl
behind_not false h = absurd (true≢false h)

-- ---- rows whose places rise

each_more : (P Q : ℕ → Type 0) (ks : List ℕ) → ((k : ℕ) → P k → Q k) → AllByRecursion P ks → AllByRecursion Q ks
each_more P Q [] f h = h
each_more P Q (k ∷ ks) f h = (f k h.0, each_more P Q ks f h.1)

each_row : (P : ℕ → Type 0) (es : List Row) → AllByRecursion P (keys_of es) → AllByRecursion (λ e. P e.0) es
each_row P [] h = h
each_row P (e ∷ es) h = (h.0, each_row P es h.1)

-- no row behind those that rise from a place is at it, or before it
pub none_from : (n k : ℕ) (es : List Row) → n ≤ k → AllByRecursion (λ j. nat_cmp k j ≡ Less) (keys_of es) → page_at es n ≡ None
none_from n k es le h = lookup-none (is_at (nat_cmp n)) es (each_row (λ j. is_at (nat_cmp n) j ≡ false) es (each_more (λ j. nat_cmp k j ≡ Less) (λ j. is_at (nat_cmp n) j ≡ false) (keys_of es) (λ j less. apart n k j le less) h))
  where
    apart : (n k j : ℕ) → n ≤ k → nat_cmp k j ≡ Less → is_at (nat_cmp n) j ≡ false
    apart n k j le less = grind (arith, nat_tests)

pub rises : (es : List Row) → IsStrictlySortedBy nat_cmp (keys_of es) → IsNonDecreasingBy (λ (e : Row). e.0) es
rises es h i j d le lt =
    let before : i < length es = omega (arith, le, lt) in
    subst (λ (n : ℕ). n ≤ (slice_index_or es j d).0) (get_or-map (λ (e : Row). e.0) es i d d.0 before)
    (subst (λ (n : ℕ). slice_index_or (keys_of es) i d.0 ≤ n) (get_or-map (λ (e : Row). e.0) es j d d.0 lt)
    (non_decreasing_from_sorted (keys_of es) h i j d.0 le (subst (λ (n : ℕ). j < n) (sym (length-map es (λ (e : Row). e.0))) lt)))

-- ---- one row more

all_insert : (P : ℕ → Type 0) (es : List Row) (n : ℕ) (page : PageId) → AllByRecursion P (keys_of es) → P n → AllByRecursion P (keys_of (insert_entry nat_cmp es n page))
all_insert P [] n page h p = (p, h)
all_insert P (e ∷ es) n page h p = by (nat_cmp n e.0) (all_insert P es n page h.1 p)
  where
    by : (o : Ordering) → AllByRecursion P (keys_of (insert_entry nat_cmp es n page))
        → AllByRecursion P (keys_of (match_ordering o ((n, page) ∷ e ∷ es) ((e.0, page) ∷ es) (e ∷ insert_entry nat_cmp es n page)))
    by Less rest = (p, h)
    by Equal rest = h
    by Greater rest = (h.0, rest)

pub sorted_insert : (es : List Row) (n : ℕ) (page : PageId) → IsStrictlySortedBy nat_cmp (keys_of es) → IsStrictlySortedBy nat_cmp (keys_of (insert_entry nat_cmp es n page))
unfolding IsStrictlySortedBy
sorted_insert [] n page h = (record {}, record {})
sorted_insert (e ∷ es) n page h = by (nat_cmp n e.0) refl (sorted_insert es n page h.1)
  where
    by : (o : Ordering) → nat_cmp n e.0 ≡ o → IsStrictlySortedBy nat_cmp (keys_of (insert_entry nat_cmp es n page))
        → IsStrictlySortedBy nat_cmp (keys_of (match_ordering o ((n, page) ∷ e ∷ es) ((e.0, page) ∷ es) (e ∷ insert_entry nat_cmp es n page)))
    by Less is rest = ((is, each_more (λ k. nat_cmp e.0 k ≡ Less) (λ k. nat_cmp n k ≡ Less) (keys_of es) (λ k less. less_less n e.0 k is less) h.0), h)
    by Equal is rest = h
    by Greater is rest = (all_insert (λ k. nat_cmp e.0 k ≡ Less) es n page h.0 (greater_turned n e.0 is), rest)

pub page_at_insert : (es : List Row) (n : ℕ) (page : PageId) (k : ℕ) → page_at (insert_entry nat_cmp es n page) k ≡ cond (is_at (nat_cmp n) k) (Some page) (page_at es k)
page_at_insert [] n page k = ap (λ b. cond b (Some page) None) (at_flip k n)
page_at_insert (e ∷ es) n page k = by (nat_cmp n e.0) refl (page_at_insert es n page k)
  where
    replaced : (b c : Bool) → is_at (nat_cmp k) e.0 ≡ c → is_at (nat_cmp n) k ≡ b → n ≡ e.0 → cond c (Some page) (page_at es k) ≡ cond b (Some page) (cond c (Some e.1) (page_at es k))
    replaced true true h i same = refl
    replaced false false h i same = refl
    replaced true false h i same = absurd (true≢false (sym i ∙ at_flip n k ∙ ap (is_at (nat_cmp k)) same ∙ h))
    replaced false true h i same = absurd (false≢true (sym i ∙ at_flip n k ∙ ap (is_at (nat_cmp k)) same ∙ h))

    passed : (c : Bool) → is_at (nat_cmp k) e.0 ≡ c → nat_cmp n e.0 ≡ Greater → page_at (insert_entry nat_cmp es n page) k ≡ cond (is_at (nat_cmp n) k) (Some page) (page_at es k)
        → cond c (Some e.1) (page_at (insert_entry nat_cmp es n page) k) ≡ cond (is_at (nat_cmp n) k) (Some page) (cond c (Some e.1) (page_at es k))
    passed true h is rest = sym (ap (λ b. cond b (Some page) (Some e.1)) (ap (λ j. is_at (nat_cmp n) j) (at-same k e.0 h) ∙ greater_apart n e.0 is))
    passed false h is rest = rest

    by : (o : Ordering) → nat_cmp n e.0 ≡ o → page_at (insert_entry nat_cmp es n page) k ≡ cond (is_at (nat_cmp n) k) (Some page) (page_at es k)
        → page_at (match_ordering o ((n, page) ∷ e ∷ es) ((e.0, page) ∷ es) (e ∷ insert_entry nat_cmp es n page)) k ≡ cond (is_at (nat_cmp n) k) (Some page) (page_at (e ∷ es) k)
    by Less is rest = ap (λ b. cond b (Some page) (page_at (e ∷ es) k)) (at_flip k n)
    by Equal is rest = replaced (is_at (nat_cmp n) k) (is_at (nat_cmp k) e.0) refl refl (equal_same n e.0 is)
    by Greater is rest = passed (is_at (nat_cmp k) e.0) refl is rest

-- ---- one row less

all_remove : (P : ℕ → Type 0) (test : ℕ → Bool) (es : List Row) → AllByRecursion P (keys_of es) → AllByRecursion P (keys_of (remove_entry test es))
all_remove P test [] h = h
all_remove P test (e ∷ es) h = by (test e.0) (all_remove P test es h.1)
  where
    by : (b : Bool) → AllByRecursion P (keys_of (remove_entry test es)) → AllByRecursion P (keys_of (cond b es (e ∷ remove_entry test es)))
    by true rest = h.1
    by false rest = (h.0, rest)

pub sorted_remove : (test : ℕ → Bool) (es : List Row) → IsStrictlySortedBy nat_cmp (keys_of es) → IsStrictlySortedBy nat_cmp (keys_of (remove_entry test es))
unfolding IsStrictlySortedBy
sorted_remove test [] h = h
sorted_remove test (e ∷ es) h = by (test e.0) (sorted_remove test es h.1)
  where
    by : (b : Bool) → IsStrictlySortedBy nat_cmp (keys_of (remove_entry test es)) → IsStrictlySortedBy nat_cmp (keys_of (cond b es (e ∷ remove_entry test es)))
    by true rest = h.1
    by false rest = (all_remove (λ k. nat_cmp e.0 k ≡ Less) test es h.0, rest)

pub page_at_remove : (es : List Row) (n k : ℕ) → IsStrictlySortedBy nat_cmp (keys_of es) → page_at (remove_entry (is_at (nat_cmp n)) es) k ≡ cond (is_at (nat_cmp n) k) None (page_at es k)
page_at_remove [] n k h = by (is_at (nat_cmp n) k)
  where
    none : Option PageId
    none = None

    by : (b : Bool) → none ≡ cond b none none
    by true = refl
    by false = refl
page_at_remove (e ∷ es) n k h = by (is_at (nat_cmp n) e.0) (is_at (nat_cmp k) e.0) (is_at (nat_cmp n) k) refl refl refl (page_at_remove es n k (sorted_tail nat_cmp e.0 (keys_of es) h))
  where
    by : (b c a : Bool) → is_at (nat_cmp n) e.0 ≡ b → is_at (nat_cmp k) e.0 ≡ c → is_at (nat_cmp n) k ≡ a → page_at (remove_entry (is_at (nat_cmp n)) es) k ≡ cond a None (page_at es k)
        → page_at (cond b es (e ∷ remove_entry (is_at (nat_cmp n)) es)) k ≡ cond a None (cond c (Some e.1) (page_at es k))
    by true c true at other is rest = none_from k e.0 es (omega (arith, at-same n e.0 at, at-same n k is)) (sorted_head nat_cmp e.0 (keys_of es) h)
    by true true false at other is rest = absurd (false≢true (sym is ∙ ap (λ j. is_at (nat_cmp n) j) (at-same k e.0 other) ∙ at))
    by true false false at other is rest = refl
    by false true true at other is rest = absurd (false≢true (sym at ∙ ap (λ j. is_at (nat_cmp n) j) (sym (at-same k e.0 other)) ∙ is))
    by false true false at other is rest = ap (λ c. cond c (Some e.1) (page_at (remove_entry (is_at (nat_cmp n)) es) k)) other
    by false false a at other is rest = ap (λ c. cond c (Some e.1) (page_at (remove_entry (is_at (nat_cmp n)) es) k)) other ∙ rest

pub removed_none : (es : List Row) (n : ℕ) → page_at es n ≡ None → remove_entry (is_at (nat_cmp n)) es ≡ es
removed_none [] n none = refl
removed_none (e ∷ es) n none = by (is_at (nat_cmp n) e.0) none (removed_none es n)
  where
    by : (b : Bool) → cond b (Some e.1) (page_at es n) ≡ None → (page_at es n ≡ None → remove_entry (is_at (nat_cmp n)) es ≡ es) → cond b es (e ∷ remove_entry (is_at (nat_cmp n)) es) ≡ e ∷ es
    by true is rest = absurd (true≢false (ap is_some is))
    by false is rest = ap (λ l. e ∷ l) (rest is)

-- ---- where a place stands

abbrev pub before : ℕ → List Row → ℕ
before n es = leading (λ (e : Row). nat_lt e.0 n) es

pub past_all : (es : List Row) (n : ℕ) → length es ≤ before n es → page_at es n ≡ None
past_all [] n le = refl
past_all (e ∷ es) n le = by (nat_lt e.0 n) refl le (past_all es n)
  where
    by : (b : Bool) → nat_lt e.0 n ≡ b → length (e ∷ es) ≤ cond b (suc (before n es)) 0 → (length es ≤ before n es → page_at es n ≡ None) → page_at (e ∷ es) n ≡ None
    by true below le rest = ap (λ c. cond c (Some e.1) (page_at es n)) (greater_apart n e.0 (below_greater n e.0 below)) ∙ rest (omega (arith, le))
    by false below le rest = absurd (omega (arith, le))

pub beside : (es : List Row) (n : ℕ) (d : Row) → IsStrictlySortedBy nat_cmp (keys_of es) → before n es < length es → ((slice_index_or es (before n es) d).0 == n) ≡ is_some (page_at es n)
beside [] n d h lt = absurd (omega (arith, lt))
beside (e ∷ es) n d h lt = by (nat_lt e.0 n) refl lt (beside es n d (sorted_tail nat_cmp e.0 (keys_of es) h))
  where
    here : (c : Bool) → is_at (nat_cmp n) e.0 ≡ c → nat_lt e.0 n ≡ false → c ≡ is_some (cond c (Some e.1) (page_at es n))
    here true at below = refl
    here false at below = sym (ap is_some (none_from n e.0 es (less_le n e.0 (apart_less n e.0 below at)) (sorted_head nat_cmp e.0 (keys_of es) h)))

    by : (b : Bool) → nat_lt e.0 n ≡ b → cond b (suc (before n es)) 0 < length (e ∷ es) → (before n es < length es → ((slice_index_or es (before n es) d).0 == n) ≡ is_some (page_at es n))
        → ((slice_index_or (e ∷ es) (cond b (suc (before n es)) 0) d).0 == n) ≡ is_some (page_at (e ∷ es) n)
    by true below lt rest = rest (omega (arith, lt)) ∙ sym (ap (λ c. is_some (cond c (Some e.1) (page_at es n))) (greater_apart n e.0 (below_greater n e.0 below)))
    by false below lt rest = at_is_eq n e.0 ∙ here (is_at (nat_cmp n) e.0) refl below

pub inserted_is : (es : List Row) (n : ℕ) (page : PageId) → page_at es n ≡ None → insert es (before n es) (n, page) ≡ insert_entry nat_cmp es n page
inserted_is [] n page none = refl
inserted_is (e ∷ es) n page none = by (nat_lt e.0 n) (is_at (nat_cmp n) e.0) refl refl none (inserted_is es n page)
  where
    by : (b c : Bool) → nat_lt e.0 n ≡ b → is_at (nat_cmp n) e.0 ≡ c → cond c (Some e.1) (page_at es n) ≡ None → (page_at es n ≡ None → insert es (before n es) (n, page) ≡ insert_entry nat_cmp es n page)
        → insert (e ∷ es) (cond b (suc (before n es)) 0) (n, page) ≡ insert_entry nat_cmp (e ∷ es) n page
    by b true below at is rest = absurd (true≢false (ap is_some is))
    by true false below at is rest = ap (λ l. e ∷ l) (rest is) ∙ sym (ap (λ o. match_ordering o ((n, page) ∷ e ∷ es) ((e.0, page) ∷ es) (e ∷ insert_entry nat_cmp es n page)) (below_greater n e.0 below))
    by false false below at is rest = sym (ap (λ o. match_ordering o ((n, page) ∷ e ∷ es) ((e.0, page) ∷ es) (e ∷ insert_entry nat_cmp es n page)) (apart_less n e.0 below at))

pub set_is : (es : List Row) (n : ℕ) (page : PageId) → is_some (page_at es n) ≡ true → IsStrictlySortedBy nat_cmp (keys_of es) → slice_set es (before n es) (n, page) ≡ insert_entry nat_cmp es n page
set_is [] n page there h = absurd (false≢true there)
set_is (e ∷ es) n page there h = by (nat_lt e.0 n) (is_at (nat_cmp n) e.0) refl refl there (λ t. set_is es n page t (sorted_tail nat_cmp e.0 (keys_of es) h))
  where
    by : (b c : Bool) → nat_lt e.0 n ≡ b → is_at (nat_cmp n) e.0 ≡ c → is_some (cond c (Some e.1) (page_at es n)) ≡ true → (is_some (page_at es n) ≡ true → slice_set es (before n es) (n, page) ≡ insert_entry nat_cmp es n page)
        → slice_set (e ∷ es) (cond b (suc (before n es)) 0) (n, page) ≡ insert_entry nat_cmp (e ∷ es) n page
    by true true below at is rest = absurd (false≢true (sym (greater_apart n e.0 (below_greater n e.0 below)) ∙ at))
    by true false below at is rest = ap (λ l. e ∷ l) (rest is) ∙ sym (ap (λ o. match_ordering o ((n, page) ∷ e ∷ es) ((e.0, page) ∷ es) (e ∷ insert_entry nat_cmp es n page)) (below_greater n e.0 below))
    by false true below at is rest =
        ap (λ k. (k, page) ∷ es) (at-same n e.0 at) ∙ sym (ap (λ o. match_ordering o ((n, page) ∷ e ∷ es) ((e.0, page) ∷ es) (e ∷ insert_entry nat_cmp es n page)) (itself_equal n e.0 (sym (at-same n e.0 at))))
    by false false below at is rest =
        absurd (false≢true (sym (ap is_some (none_from n e.0 es (less_le n e.0 (apart_less n e.0 below at)) (sorted_head nat_cmp e.0 (keys_of es) h))) ∙ is))

pub removed_is : (es : List Row) (n : ℕ) → is_some (page_at es n) ≡ true → IsStrictlySortedBy nat_cmp (keys_of es) → remove es (before n es) ≡ remove_entry (is_at (nat_cmp n)) es
removed_is [] n there h = absurd (false≢true there)
removed_is (e ∷ es) n there h = by (nat_lt e.0 n) (is_at (nat_cmp n) e.0) refl refl there (λ t. removed_is es n t (sorted_tail nat_cmp e.0 (keys_of es) h))
  where
    by : (b c : Bool) → nat_lt e.0 n ≡ b → is_at (nat_cmp n) e.0 ≡ c → is_some (cond c (Some e.1) (page_at es n)) ≡ true → (is_some (page_at es n) ≡ true → remove es (before n es) ≡ remove_entry (is_at (nat_cmp n)) es)
        → remove (e ∷ es) (cond b (suc (before n es)) 0) ≡ cond c es (e ∷ remove_entry (is_at (nat_cmp n)) es)
    by true true below at is rest = absurd (false≢true (sym (greater_apart n e.0 (below_greater n e.0 below)) ∙ at))
    by true false below at is rest = ap (λ l. e ∷ l) (rest is)
    by false true below at is rest = refl
    by false false below at is rest =
        absurd (false≢true (sym (ap is_some (none_from n e.0 es (less_le n e.0 (apart_less n e.0 below at)) (sorted_head nat_cmp e.0 (keys_of es) h))) ∙ is))

-- ---- the first behind a place

abbrev pub up_to : Option ℕ → List Row → ℕ
up_to last es = leading (λ (e : Row). not (is_behind last e.0)) es

pub first_behind : (last : Option ℕ) (es : List Row) (d : Row) → up_to last es < length es → is_behind last (slice_index_or es (up_to last es) d).0 ≡ true
first_behind last [] d lt = absurd (omega (arith, lt))
first_behind last (e ∷ es) d lt = by (not (is_behind last e.0)) refl lt (first_behind last es d)
  where
    by : (b : Bool) → not (is_behind last e.0) ≡ b → cond b (suc (up_to last es)) 0 < length (e ∷ es) → (up_to last es < length es → is_behind last (slice_index_or es (up_to last es) d).0 ≡ true)
        → is_behind last (slice_index_or (e ∷ es) (cond b (suc (up_to last es)) 0) d).0 ≡ true
    by true h lt rest = rest (omega (arith, lt))
    by false h lt rest = behind_not (is_behind last e.0) h

pub first_found : (last : Option ℕ) (es : List Row) (d : Row) → up_to last es < length es → page_at es (slice_index_or es (up_to last es) d).0 ≡ Some (slice_index_or es (up_to last es) d).1
first_found last [] d lt = absurd (omega (arith, lt))
first_found last (e ∷ es) d lt = by (not (is_behind last e.0)) refl lt (first_found last es d) (first_behind last es d)
  where
    by : (b : Bool) → not (is_behind last e.0) ≡ b → cond b (suc (up_to last es)) 0 < length (e ∷ es)
        → (up_to last es < length es → page_at es (slice_index_or es (up_to last es) d).0 ≡ Some (slice_index_or es (up_to last es) d).1)
        → (up_to last es < length es → is_behind last (slice_index_or es (up_to last es) d).0 ≡ true)
        → page_at (e ∷ es) (slice_index_or (e ∷ es) (cond b (suc (up_to last es)) 0) d).0 ≡ Some (slice_index_or (e ∷ es) (cond b (suc (up_to last es)) 0) d).1
    by true h lt rest back =
        let within : up_to last es < length es = omega (arith, lt) in
        ap (λ c. cond c (Some e.1) (page_at es (slice_index_or es (up_to last es) d).0)) (behind_apart last (slice_index_or es (up_to last es) d).0 e.0 (back within) h) ∙ rest within
    by false h lt rest back = ap (λ c. cond c (Some e.1) (page_at es e.0)) (at-itself e.0)

pub first_least : (last : Option ℕ) (es : List Row) (d : Row) → IsStrictlySortedBy nat_cmp (keys_of es) → up_to last es < length es
    → (n : ℕ) → is_behind last n ≡ true → is_some (page_at es n) ≡ true → (slice_index_or es (up_to last es) d).0 ≤ n
first_least last [] d h lt n back there = absurd (omega (arith, lt))
first_least last (e ∷ es) d h lt n back there = by (not (is_behind last e.0)) (is_at (nat_cmp n) e.0) refl refl lt there (λ w t. first_least last es d (sorted_tail nat_cmp e.0 (keys_of es) h) w n back t)
  where
    after : (b : Bool) → nat_lt n e.0 ≡ b → is_some (page_at es n) ≡ true → e.0 ≤ n
    after true lt t = absurd (false≢true (sym (ap is_some (none_from n e.0 es (before_le n e.0 lt) (sorted_head nat_cmp e.0 (keys_of es) h))) ∙ t))
    after false lt t = grind (arith, nat_tests)

    by : (b c : Bool) → not (is_behind last e.0) ≡ b → is_at (nat_cmp n) e.0 ≡ c → cond b (suc (up_to last es)) 0 < length (e ∷ es) → is_some (cond c (Some e.1) (page_at es n)) ≡ true
        → (up_to last es < length es → is_some (page_at es n) ≡ true → (slice_index_or es (up_to last es) d).0 ≤ n) → (slice_index_or (e ∷ es) (cond b (suc (up_to last es)) 0) d).0 ≤ n
    by true true h at lt t rest = absurd (false≢true (sym (behind_apart last n e.0 back h) ∙ at))
    by true false h at lt t rest = rest (omega (arith, lt)) t
    by false true h at lt t rest = omega (arith, at-same n e.0 at)
    by false false h at lt t rest = after (nat_lt n e.0) refl t

pub none_behind : (last : Option ℕ) (es : List Row) → length es ≤ up_to last es → (n : ℕ) → is_behind last n ≡ true → page_at es n ≡ None
none_behind last [] le n back = refl
none_behind last (e ∷ es) le n back = by (not (is_behind last e.0)) refl le (λ w. none_behind last es w n back)
  where
    by : (b : Bool) → not (is_behind last e.0) ≡ b → length (e ∷ es) ≤ cond b (suc (up_to last es)) 0 → (length es ≤ up_to last es → page_at es n ≡ None) → page_at (e ∷ es) n ≡ None
    by true h le rest = ap (λ c. cond c (Some e.1) (page_at es n)) (behind_apart last n e.0 back h) ∙ rest (omega (arith, le))
    by false h le rest = absurd (omega (arith, le))

pub not_behind : (last k : ℕ) → nat_le k last ≡ not (is_behind (Some last) k)
not_behind last k = grind (arith, nat_tests)

pub past_not_lt : (n k : ℕ) → k ≤ n → nat_lt n k ≡ false
past_not_lt n k h = grind (arith, nat_tests)

pub sorted_none : (es : List Row) → es ≡ [] → IsStrictlySortedBy nat_cmp (keys_of es)
unfolding IsStrictlySortedBy
sorted_none [] h = record {}
sorted_none (e ∷ es) h = let some : length (e ∷ es) ≡ 0 = ap length h in absurd (omega (arith, some))

pub unless_there : (es : List Row) (n : ℕ) → is_some (page_at es n) ≡ false → page_at es n ≡ None
unless_there es n h = by (page_at es n) h
  where
    by : (o : Option PageId) → is_some o ≡ false → o ≡ None
    by None h = refl
    by (Some page) h = absurd (true≢false h)
