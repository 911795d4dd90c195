-- The pages in the order of their places, found as one goes over the map that has each page's place.
use Rattle.std.proofs.Common.{◌≡◌, ◌∙◌, ◌+◌, ◌<◌, ℕ, zero, suc, nat_lt, Bool, true, false, List, [], ◌∷◌, ◌++◌, take, slice_get, Some, nat_cmp, refl, ap, sym, subst, true≢false, arith}
use Rattle.std.proofs.lemmas.Bool.Decides.{nat_tests}
use Rattle.std.proofs.lemmas.Map.Keys.{IsDistinct-head, IsDistinct-tail}
use Rattle.std.proofs.lemmas.Option.{none-some, same_Some}
use Rattle.std.specs.BTreeMap.{insert_entry, is_at}
use Rattle.std.specs.List.{AllByRecursion, IsDistinct}
use Rattle.std.specs.List.Sorted.{IsStrictlySortedBy}
use Rattle.std.specs.Map.{keys_of}
use Rattle.shm_place.specs.declared.page_id.PageId.{PageId}
use Rattle.shm_place.specs.Page.{same_page}
use Rattle.shm_parts.specs.Places.{IsPlaced, in_order, page_at, place_of}
use Rattle.shm_parts.proofs.InOrderLemmas.{sorted_in_order, turned}
use Rattle.shm_parts.proofs.ListedLemmas.{each_found, take-next}
use Rattle.shm_parts.proofs.PlaceLemmas.{at-same, page-itself}
use Rattle.shm_parts.proofs.RisingLemmas.{Row}

-- ---- places that differ may come in either order

below_from : (n m : ℕ) → nat_lt m n ≡ true → m < n
below_from n m h = grind (arith, nat_tests)

above_from : (n m : ℕ) → nat_lt m n ≡ false → is_at (nat_cmp n) m ≡ false → n < m
above_from n m h apart = grind (arith, nat_tests)

apart_turned : (rows : List Row) (n m : ℕ) (p q : PageId) → is_at (nat_cmp n) m ≡ false → IsStrictlySortedBy nat_cmp (keys_of rows)
    → insert_entry nat_cmp (insert_entry nat_cmp rows n p) m q ≡ insert_entry nat_cmp (insert_entry nat_cmp rows m q) n p
apart_turned rows n m p q apart rising = by (nat_lt m n) refl
  where
    by : (b : Bool) → nat_lt m n ≡ b → insert_entry nat_cmp (insert_entry nat_cmp rows n p) m q ≡ insert_entry nat_cmp (insert_entry nat_cmp rows m q) n p
    by true h = turned rows n m p q (below_from n m h) rising
    by false h = sym (turned rows m n q p (above_from n m h apart) rising)

pushed_apart : (es : List (PageId × ℕ)) (n : ℕ) (page : PageId) → AllByRecursion (λ e. is_at (nat_cmp n) e.1 ≡ false) es
    → in_order (es ++ (page, n) ∷ []) ≡ insert_entry nat_cmp (in_order es) n page
pushed_apart [] n page apart = refl
pushed_apart (e ∷ es) n page apart =
    ap (λ rows. insert_entry nat_cmp rows e.1 e.0) (pushed_apart es n page apart.1) ∙ apart_turned (in_order es) n e.1 page e.0 apart.0 (sorted_in_order es)

-- ---- what stands before a place

module _ {X : Type 0} where
  all-take : (P : X → Type 0) (xs : List X) (i : ℕ) → AllByRecursion P xs → AllByRecursion P (take i xs)
  all-take P [] zero all = record {}
  all-take P (x ∷ xs) zero all = record {}
  all-take P [] (suc i) all = record {}
  all-take P (x ∷ xs) (suc i) all = (all.0, all-take P xs i all.1)

  all-both : (P Q R : X → Type 0) (xs : List X) → ((x : X) → P x → Q x → R x) → AllByRecursion P xs → AllByRecursion Q xs → AllByRecursion R xs
  all-both P Q R [] both p q = record {}
  all-both P Q R (x ∷ xs) both p q = (both x p.0 q.0, all-both P Q R xs both p.1 q.1)

  one_of : (P : PageId → Type 0) (es : List (PageId × X)) (i : ℕ) (e : PageId × X) → AllByRecursion P (keys_of es) → slice_get es i ≡ Some e → P e.0
  one_of P [] i e all at = absurd (none-some e at)
  one_of P (x ∷ xs) zero e all at = subst (λ (y : PageId × X). P y.0) (same_Some x e at) all.0
  one_of P (x ∷ xs) (suc i) e all at = one_of P xs i e all.1 at

  before_apart : (es : List (PageId × X)) (i : ℕ) (e : PageId × X) → IsDistinct same_page (keys_of es) → slice_get es i ≡ Some e → AllByRecursion (λ f. same_page f.0 e.0 ≡ false) (take i es)
  before_apart [] i e distinct at = absurd (none-some e at)
  before_apart (x ∷ xs) zero e distinct at = record {}
  before_apart (x ∷ xs) (suc i) e distinct at =
      (one_of (λ p. same_page x.0 p ≡ false) xs i e (IsDistinct-head same_page x.0 (keys_of xs) distinct) at, before_apart xs i e (IsDistinct-tail same_page x.0 (keys_of xs) distinct) at)

  -- what holds of all holds of the one at a place
  at_all : (P : X → Type 0) (xs : List X) (i : ℕ) (x : X) → AllByRecursion P xs → slice_get xs i ≡ Some x → P x
  at_all P [] i x all at = absurd (none-some x at)
  at_all P (y ∷ ys) zero x all at = subst P (same_Some y x at) all.0
  at_all P (y ∷ ys) (suc i) x all at = at_all P ys i x all.1 at

-- a page at another place
place_apart : (places : List (PageId × ℕ)) (pages : List (ℕ × PageId)) (page q : PageId) (n k : ℕ) → ((p : PageId) (place : ℕ) → place_of places p ≡ Some place → page_at pages place ≡ Some p)
    → place_of places page ≡ Some n → place_of places q ≡ Some k → same_page q page ≡ false → is_at (nat_cmp n) k ≡ false
place_apart places pages page q n k there own other apart = by (is_at (nat_cmp n) k) refl
  where
    by : (b : Bool) → is_at (nat_cmp n) k ≡ b → b ≡ false
    by true at =
        let same : page ≡ q = same_Some page q (sym (there page n own) ∙ ap (page_at pages) (at-same n k at) ∙ there q k other) in
        absurd (true≢false (sym (page-itself q) ∙ ap (same_page q) (sym same) ∙ apart))
    by false at = refl

-- the page behind those that were gone over, put at its place
pub placed_more_in_order : (places : List (PageId × ℕ)) (pages marked : List (ℕ × PageId)) (next i : ℕ) (page : PageId) (place : ℕ) (rows : List (ℕ × PageId)) → IsPlaced places pages marked next
    → IsDistinct same_page (keys_of places) → slice_get places i ≡ Some (page, place) → rows ≡ in_order (take i places) → insert_entry nat_cmp rows place page ≡ in_order (take (i + 1) places)
placed_more_in_order places pages marked next i page place rows is distinct at so_far =
    let own = each_found places distinct in
    let found : place_of places page ≡ Some place = at_all (λ (e : PageId × ℕ). place_of places e.0 ≡ Some e.1) places i (page, place) own at in
    ap (λ (l : List (ℕ × PageId)). insert_entry nat_cmp l place page) so_far
    ∙ sym (pushed_apart (take i places) place page
    (all-both (λ (f : PageId × ℕ). same_page f.0 page ≡ false) (λ (f : PageId × ℕ). place_of places f.0 ≡ Some f.1) (λ (f : PageId × ℕ). is_at (nat_cmp place) f.1 ≡ false) (take i places)
    (λ f apart other. place_apart places pages page f.0 place f.1 is.there found other apart)
    (before_apart places i (page, place) distinct at) (all-take (λ (f : PageId × ℕ). place_of places f.0 ≡ Some f.1) places i own)))
    ∙ sym (ap in_order (take-next places i (page, place) at))
