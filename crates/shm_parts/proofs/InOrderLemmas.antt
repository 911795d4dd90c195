-- The pages in the order of their places, where a page comes or goes.
use Rattle.std.proofs.Common.{◌≡◌, ◌<◌, ◌≤◌, ℕ, Bool, true, false, cond, List, [], ◌∷◌, ◌++◌, Option, Some, None, is_some, nat_cmp, Ordering, Less, Equal, Greater, refl, sym, ap, subst, ◌∙◌, true≢false, arith}
use Rattle.std.proofs.lemmas.Bool.{false≢true}
use Rattle.std.proofs.lemmas.Map.Keys.{IsDistinct-head, IsDistinct-tail, sorted_head, sorted_tail}
use Rattle.std.proofs.lemmas.Option.{none-some, same_Some}
use Rattle.std.specs.BTreeMap.{insert_entry, is_at}
use Rattle.std.specs.List.{AllByRecursion, IsDistinct}
use Rattle.std.specs.List.Sorted.{IsStrictlySortedBy}
use Rattle.std.specs.Map.{keys_of, remove_entry}
use Rattle.std.specs.Ordering.{match_ordering}
use Rattle.shm_place.specs.declared.page_id.PageId.{PageId}
use Rattle.shm_place.specs.Page.{same_page}
use Rattle.shm_parts.specs.Places.{in_order, page_at, place_of}
use Rattle.shm_parts.proofs.BookSteps.{page-same}
use Rattle.shm_parts.proofs.PlaceLemmas.{at-itself, at-same, page-itself}
use Rattle.shm_parts.proofs.RisingLemmas.{Row, equal_same, greater_turned, less_apart, less_le, none_from, page_at_insert, page_at_remove, sorted_insert, sorted_none, sorted_remove}

-- ---- rows whose places rise, and that have equal pages at equal places, are equal

at_head : (x : Row) (xs : List Row) → page_at (x ∷ xs) x.0 ≡ Some x.1
at_head x xs = ap (λ b. cond b (Some x.1) (page_at xs x.0)) (at-itself x.0)

before_head : (n : ℕ) (y : Row) (ys : List Row) → IsStrictlySortedBy nat_cmp (keys_of (y ∷ ys)) → nat_cmp n y.0 ≡ Less → page_at (y ∷ ys) n ≡ None
before_head n y ys t less = ap (λ b. cond b (Some y.1) (page_at ys n)) (less_apart n y.0 less) ∙ none_from n y.0 ys (less_le n y.0 less) (sorted_head nat_cmp y.0 (keys_of ys) t)

same_le : (n k : ℕ) → n ≡ k → n ≤ k
same_le n k h = omega (arith, h)

same_tails : (x y : Row) (xs ys : List Row) → IsStrictlySortedBy nat_cmp (keys_of (x ∷ xs)) → IsStrictlySortedBy nat_cmp (keys_of (y ∷ ys)) → x.0 ≡ y.0
    → ((k : ℕ) → page_at (x ∷ xs) k ≡ page_at (y ∷ ys) k) → (k : ℕ) → page_at xs k ≡ page_at ys k
same_tails x y xs ys s t same h k = by (is_at (nat_cmp k) x.0) refl
  where
    by : (b : Bool) → is_at (nat_cmp k) x.0 ≡ b → page_at xs k ≡ page_at ys k
    by true at =
        let here : k ≡ x.0 = at-same k x.0 at in
        none_from k x.0 xs (same_le k x.0 here) (sorted_head nat_cmp x.0 (keys_of xs) s) ∙ sym (none_from k y.0 ys (same_le k y.0 (here ∙ same)) (sorted_head nat_cmp y.0 (keys_of ys) t))
    by false at = sym (ap (λ b. cond b (Some x.1) (page_at xs k)) at) ∙ h k ∙ ap (λ b. cond b (Some y.1) (page_at ys k)) (ap (is_at (nat_cmp k)) (sym same) ∙ at)

same_rows : (xs ys : List Row) → IsStrictlySortedBy nat_cmp (keys_of xs) → IsStrictlySortedBy nat_cmp (keys_of ys) → ((k : ℕ) → page_at xs k ≡ page_at ys k) → xs ≡ ys
same_rows [] [] s t h = refl
same_rows [] (y ∷ ys) s t h = absurd (none-some y.1 (h y.0 ∙ at_head y ys))
same_rows (x ∷ xs) [] s t h = absurd (none-some x.1 (sym (h x.0) ∙ at_head x xs))
same_rows (x ∷ xs) (y ∷ ys) s t h = by (nat_cmp x.0 y.0) refl (same_rows xs ys (sorted_tail nat_cmp x.0 (keys_of xs) s) (sorted_tail nat_cmp y.0 (keys_of ys) t))
  where
    by : (o : Ordering) → nat_cmp x.0 y.0 ≡ o → (((k : ℕ) → page_at xs k ≡ page_at ys k) → xs ≡ ys) → x ∷ xs ≡ y ∷ ys
    by Less is rest = absurd (none-some x.1 (sym (before_head x.0 y ys t is) ∙ sym (h x.0) ∙ at_head x xs))
    by Greater is rest = absurd (none-some y.1 (sym (before_head y.0 x xs s (greater_turned x.0 y.0 is)) ∙ h y.0 ∙ at_head y ys))
    by Equal is rest =
        let same : x.0 ≡ y.0 = equal_same x.0 y.0 is in
        let page : x.1 ≡ y.1 = same_Some x.1 y.1 (sym (at_head x xs) ∙ h x.0 ∙ ap (page_at (y ∷ ys)) same ∙ at_head y ys) in
        let row : x ≡ y = ap (λ (n : ℕ). (n, x.1)) same ∙ ap (λ (p : PageId). (y.0, p)) page in
        ap (λ (r : Row). r ∷ xs) row ∙ ap (λ l. y ∷ l) (rest (same_tails x y xs ys s t same h))

-- ---- one page more

apart_both : (n m k : ℕ) → m < n → is_at (nat_cmp n) k ≡ true → is_at (nat_cmp m) k ≡ true → true ≡ false
apart_both n m k lt h i = absurd (let here = at-same n k h in let there = at-same m k i in omega (arith, lt, here, there))

pub turned : (rows : List Row) (n m : ℕ) (p q : PageId) → m < n → IsStrictlySortedBy nat_cmp (keys_of rows)
    → insert_entry nat_cmp (insert_entry nat_cmp rows n p) m q ≡ insert_entry nat_cmp (insert_entry nat_cmp rows m q) n p
turned rows n m p q lt s =
    same_rows (insert_entry nat_cmp (insert_entry nat_cmp rows n p) m q) (insert_entry nat_cmp (insert_entry nat_cmp rows m q) n p)
    (sorted_insert (insert_entry nat_cmp rows n p) m q (sorted_insert rows n p s)) (sorted_insert (insert_entry nat_cmp rows m q) n p (sorted_insert rows m q s))
    (λ k. page_at_insert (insert_entry nat_cmp rows n p) m q k ∙ ap (λ (o : Option PageId). cond (is_at (nat_cmp m) k) (Some q) o) (page_at_insert rows n p k)
    ∙ swapped k (is_at (nat_cmp n) k) (is_at (nat_cmp m) k) refl refl
    ∙ sym (page_at_insert (insert_entry nat_cmp rows m q) n p k ∙ ap (λ (o : Option PageId). cond (is_at (nat_cmp n) k) (Some p) o) (page_at_insert rows m q k)))
  where
    swapped : (k : ℕ) (b c : Bool) → is_at (nat_cmp n) k ≡ b → is_at (nat_cmp m) k ≡ c → cond c (Some q) (cond b (Some p) (page_at rows k)) ≡ cond b (Some p) (cond c (Some q) (page_at rows k))
    swapped k true true h i = absurd (true≢false (apart_both n m k lt h i))
    swapped k true false h i = refl
    swapped k false true h i = refl
    swapped k false false h i = refl

pub sorted_in_order : (es : List (PageId × ℕ)) → IsStrictlySortedBy nat_cmp (keys_of (in_order es))
sorted_in_order [] = sorted_none [] refl
sorted_in_order (e ∷ es) = sorted_insert (in_order es) e.1 e.0 (sorted_in_order es)

record AllOf (P : ℕ → Type 0) (n : ℕ) (rows : List Row) : Type 0 where
  pub one : P n
  pub others : AllByRecursion P (keys_of rows)

all_parts : (P : ℕ → Type 0) (rows : List Row) (n : ℕ) (page : PageId) → AllByRecursion P (keys_of (insert_entry nat_cmp rows n page)) → AllOf P n rows
all_parts P [] n page h = record { one = h.0; others = h.1 }
all_parts P (e ∷ es) n page h = by (nat_cmp n e.0) refl h (all_parts P es n page)
  where
    by : (o : Ordering) → nat_cmp n e.0 ≡ o → AllByRecursion P (keys_of (match_ordering o ((n, page) ∷ e ∷ es) ((e.0, page) ∷ es) (e ∷ insert_entry nat_cmp es n page)))
        → (AllByRecursion P (keys_of (insert_entry nat_cmp es n page)) → AllOf P n es) → AllOf P n (e ∷ es)
    by Less is h rest = record { one = h.0; others = h.1 }
    by Equal is h rest = record { one = subst P (sym (equal_same n e.0 is)) h.0; others = h }
    by Greater is h rest = record { one = (rest h.1).one; others = (h.0, (rest h.1).others) }

all_places : (P : ℕ → Type 0) (rows : List Row) → AllByRecursion (λ e. P e.0) rows → AllByRecursion P (keys_of rows)
all_places P [] h = h
all_places P (e ∷ es) h = (h.0, all_places P es h.1)

pushed : (es : List (PageId × ℕ)) (n : ℕ) (page : PageId) → AllByRecursion (λ k. k < n) (keys_of (in_order es)) → in_order (es ++ (page, n) ∷ []) ≡ insert_entry nat_cmp (in_order es) n page
pushed [] n page below = refl
pushed (e ∷ es) n page below =
    let parts = all_parts (λ k. k < n) (in_order es) e.1 e.0 below in
    ap (λ rows. insert_entry nat_cmp rows e.1 e.0) (pushed es n page parts.others) ∙ turned (in_order es) n e.1 page e.0 parts.one (sorted_in_order es)

-- a page that is put last, at a place above all others, is the last one in order
pub put_in_order : (es more : List (PageId × ℕ)) (n : ℕ) (page : PageId) → AllByRecursion (λ e. e.0 < n) (in_order es) → more ≡ es ++ (page, n) ∷ [] → in_order more ≡ insert_entry nat_cmp (in_order es) n page
put_in_order es more n page below put = ap in_order put ∙ pushed es n page (all_places (λ k. k < n) (in_order es) below)

-- ---- one page less

page_flip : (p q : PageId) → same_page p q ≡ false → same_page q p ≡ false
page_flip p q apart = by (same_page q p) refl
  where
    by : (b : Bool) → same_page q p ≡ b → b ≡ false
    by true h = absurd (true≢false (sym (page-itself p) ∙ ap (same_page p) (sym (page-same q p h)) ∙ apart))
    by false h = refl

own_places : (es : List (PageId × ℕ)) → IsDistinct same_page (keys_of es) → AllByRecursion (λ e. place_of es e.0 ≡ Some e.1) es
own_places [] d = record {}
own_places (e ∷ es) d =
    (ap (λ b. cond b (Some e.1) (place_of es e.0)) (page-itself e.0), others es (IsDistinct-head same_page e.0 (keys_of es) d) (own_places es (IsDistinct-tail same_page e.0 (keys_of es) d)))
  where
    others : (fs : List (PageId × ℕ)) → AllByRecursion (λ p. same_page e.0 p ≡ false) (keys_of fs) → AllByRecursion (λ f. place_of es f.0 ≡ Some f.1) fs → AllByRecursion (λ f. place_of (e ∷ es) f.0 ≡ Some f.1) fs
    others [] apart own = record {}
    others (f ∷ fs) apart own = (ap (λ b. cond b (Some e.1) (place_of es f.0)) (page_flip e.0 f.0 apart.0) ∙ own.0, others fs apart.1 own.1)

ordered_all : (P : PageId → ℕ → Type 0) (es : List (PageId × ℕ)) (n : ℕ) (page : PageId) → AllByRecursion (λ e. P e.0 e.1) es → page_at (in_order es) n ≡ Some page → P page n
ordered_all P [] n page h found = absurd (none-some page found)
ordered_all P (e ∷ es) n page h found = by (is_at (nat_cmp e.1) n) refl (sym (page_at_insert (in_order es) e.1 e.0 n) ∙ found) (ordered_all P es n page h.1)
  where
    by : (b : Bool) → is_at (nat_cmp e.1) n ≡ b → cond b (Some e.0) (page_at (in_order es) n) ≡ Some page → (page_at (in_order es) n ≡ Some page → P page n) → P page n
    by true at is rest = subst (λ (k : ℕ). P page k) (at-same e.1 n at) (subst (λ (p : PageId). P p e.1) (same_Some e.0 page is) h.0)
    by false at is rest = rest is

ordered_some : (es : List (PageId × ℕ)) (n : ℕ) (page : PageId) → place_of es page ≡ Some n → is_some (page_at (in_order es) n) ≡ true
ordered_some [] n page own = absurd (none-some n own)
ordered_some (e ∷ es) n page own = ap is_some (page_at_insert (in_order es) e.1 e.0 n) ∙ by (same_page page e.0) own (ordered_some es n page)
  where
    still : (b : Bool) → is_some (page_at (in_order es) n) ≡ true → is_some (cond b (Some e.0) (page_at (in_order es) n)) ≡ true
    still true h = refl
    still false h = h

    by : (b : Bool) → cond b (Some e.1) (place_of es page) ≡ Some n → (place_of es page ≡ Some n → is_some (page_at (in_order es) n) ≡ true)
        → is_some (cond (is_at (nat_cmp e.1) n) (Some e.0) (page_at (in_order es) n)) ≡ true
    by true is rest = ap (λ b. is_some (cond b (Some e.0) (page_at (in_order es) n))) (ap (is_at (nat_cmp e.1)) (sym (same_Some e.1 n is)) ∙ at-itself e.1)
    by false is rest = still (is_at (nat_cmp e.1) n) (rest is)

module _ (es less : List (PageId × ℕ)) (page : PageId) (n : ℕ) (own : place_of es page ≡ Some n) (there : (q : PageId) (k : ℕ) → place_of es q ≡ Some k → page_at (in_order es) k ≡ Some q)
    (back : (k : ℕ) (q : PageId) → page_at (in_order es) k ≡ Some q → place_of es q ≡ Some k) (put : (q : PageId) → place_of less q ≡ cond (same_page page q) None (place_of es q))
    (distinct : IsDistinct same_page (keys_of less)) where
  stays_at : (k : ℕ) (q : PageId) → page_at (in_order less) k ≡ Some q → page_at (in_order es) k ≡ Some q
  stays_at k q found = by (same_page page q) (sym (put q) ∙ ordered_all (λ p m. place_of less p ≡ Some m) less k q (own_places less distinct) found)
    where
      by : (b : Bool) → cond b None (place_of es q) ≡ Some k → page_at (in_order es) k ≡ Some q
      by true is = absurd (none-some k is)
      by false is = there q k is

  -- what was at the page's place is gone
  gone_at : (k : ℕ) (q : PageId) → page_at (in_order less) k ≡ Some q → n ≡ k → true ≡ false
  gone_at k q found same =
      let owner : page ≡ q = same_Some page q (sym (there page n own) ∙ ap (page_at (in_order es)) same ∙ stays_at k q found) in
      let gone : place_of less q ≡ None = put q ∙ ap (λ b. cond b None (place_of es q)) (ap (same_page page) (sym owner) ∙ page-itself page) in
      absurd (none-some k (sym gone ∙ ordered_all (λ p m. place_of less p ≡ Some m) less k q (own_places less distinct) found))

  kept_at : (k : ℕ) (q : PageId) → page_at (in_order es) k ≡ Some q → is_at (nat_cmp n) k ≡ false → is_some (page_at (in_order less) k) ≡ true
  kept_at k q found apart = ordered_some less k q (put q ∙ by (same_page page q) refl)
    where
      by : (b : Bool) → same_page page q ≡ b → cond b None (place_of es q) ≡ Some k
      by true same =
          let at : n ≡ k = same_Some n k (sym own ∙ ap (place_of es) (page-same page q same) ∙ back k q found) in
          absurd (true≢false (sym (at-itself n) ∙ ap (is_at (nat_cmp n)) at ∙ apart))
      by false same = back k q found

  less_at : (k : ℕ) → page_at (in_order less) k ≡ cond (is_at (nat_cmp n) k) None (page_at (in_order es) k)
  less_at k = by (page_at (in_order less) k) (page_at (in_order es) k) (is_at (nat_cmp n) k) refl refl refl
    where
      by : (o p : Option PageId) (b : Bool) → page_at (in_order less) k ≡ o → page_at (in_order es) k ≡ p → is_at (nat_cmp n) k ≡ b → o ≡ cond b None p
      by (Some q) p true now was at = absurd (true≢false (gone_at k q now (at-same n k at)))
      by (Some q) p false now was at = sym (stays_at k q now) ∙ was
      by None p true now was at = refl
      by None None false now was at = refl
      by None (Some q) false now was at = absurd (false≢true (sym (ap is_some now) ∙ kept_at k q was at))

  pub removed_in_order : in_order less ≡ remove_entry (is_at (nat_cmp n)) (in_order es)
  removed_in_order =
      same_rows (in_order less) (remove_entry (is_at (nat_cmp n)) (in_order es)) (sorted_in_order less) (sorted_remove (is_at (nat_cmp n)) (in_order es) (sorted_in_order es))
      (λ k. less_at k ∙ sym (page_at_remove (in_order es) n k (sorted_in_order es)))
