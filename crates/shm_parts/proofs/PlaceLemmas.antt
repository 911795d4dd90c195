-- Pages at places: one page more, and one less.
use Rattle.std.proofs.Common.{◌≡◌, ◌==◌, ◌<◌, ℕ, Bool, true, false, cond, not, ◌||◌, List, [], ◌∷◌, ◌++◌, filter, Option, Some, None, is_some, nat_cmp, Less, Greater, refl, sym, ap, subst, ◌∙◌, true≢false, arith}
use Rattle.std.proofs.lemmas.Bool.Decides.{nat_tests}
use Rattle.std.proofs.lemmas.Bool.{and_from, eq-eqb, false≢true, or_right}
use Rattle.std.proofs.lemmas.Map.{lookup-none}
use Rattle.std.proofs.lemmas.Map.Keys.{sorted_head, sorted_tail}
use Rattle.std.proofs.lemmas.Option.{same_Some, none-some}
use Rattle.std.specs.BTreeMap.{insert_entry, is_at}
use Rattle.std.specs.List.{AllByRecursion, list_any}
use Rattle.std.specs.List.Sorted.{IsStrictlySortedBy}
use Rattle.std.specs.Map.{keys_of, remove_entry, values_of}
use Rattle.std.specs.Ordering.{match_ordering}
use Rattle.shm_place.specs.declared.page_id.PageId.{PageId}
use Rattle.shm_place.specs.Limits as limit
use Rattle.shm_place.specs.Page.{same_page}
use Rattle.shm_model.specs.Transfer.{without_page}
use Rattle.shm_parts.specs.Places.{IsPlaced, page_at, place_of}
use Rattle.shm_parts.proofs.BookSteps.{page-same}
use Rattle.shm_parts.proofs.ListLemmas.{all-filter, all-keys, all-map, all-push, all-values, filter-all, values-filter}

pub page-itself : (page : PageId) → same_page page page ≡ true
page-itself page = and_from (page.seg == page.seg) (page.index == page.index) (eq-eqb page.seg page.seg refl) (eq-eqb page.index page.index refl)

pub no_place : {X : Type 0} (o : Option X) → is_some o ≡ false → o ≡ None
no_place None h = refl
no_place (Some x) h = absurd (true≢false h)

-- ---- numbers

pub at-same : (n k : ℕ) → is_at (nat_cmp n) k ≡ true → n ≡ k
at-same n k h = grind (arith, nat_tests)

pub at-itself : (n : ℕ) → is_at (nat_cmp n) n ≡ true
at-itself n = grind (arith, nat_tests)

at-below : (n k : ℕ) → k < n → is_at (nat_cmp n) k ≡ false
at-below n k h = grind (arith, nat_tests)

at-above : (n k : ℕ) → nat_cmp n k ≡ Less → is_at (nat_cmp n) k ≡ false
at-above n k h = grind (arith, nat_tests)

pub at-over : (n k : ℕ) → n < k → is_at (nat_cmp n) k ≡ false
at-over n k h = grind (arith, nat_tests)

greater : (n k : ℕ) → k < n → nat_cmp n k ≡ Greater
greater n k h = grind (arith, nat_tests)

pub above : (n k : ℕ) → nat_cmp n k ≡ Less → n < k
above n k h = grind (arith, nat_tests)

-- ---- a page at a place

pub page_at-all : (P : ℕ × PageId → Type 0) (es : List (ℕ × PageId)) (n : ℕ) (page : PageId) → AllByRecursion P es → page_at es n ≡ Some page → P (n, page)
page_at-all P [] n page h found = absurd (none-some page found)
page_at-all P (e ∷ es) n page h found = by (is_at (nat_cmp n) e.0) refl found (page_at-all P es n page h.1)
  where
    by : (b : Bool) → is_at (nat_cmp n) e.0 ≡ b → cond b (Some e.1) (page_at es n) ≡ Some page → (page_at es n ≡ Some page → P (n, page)) → P (n, page)
    by true e1 f rest = subst (λ (p : PageId). P (n, p)) (same_Some e.1 page f) (subst (λ k. P (k, e.1)) (sym (at-same n e.0 e1)) h.0)
    by false e1 f rest = rest f

page_at-below : (es : List (ℕ × PageId)) (n : ℕ) → AllByRecursion (λ e. e.0 < n) es → page_at es n ≡ None
page_at-below es n h = lookup-none (is_at (nat_cmp n)) es (all-map (λ (e : ℕ × PageId). e.0 < n) (λ (e : ℕ × PageId). is_at (nat_cmp n) e.0 ≡ false) es (λ e lt. at-below n e.0 lt) h)

page_at-more : (es fs : List (ℕ × PageId)) (n : ℕ) (page : PageId) → page_at es n ≡ Some page → page_at (es ++ fs) n ≡ Some page
page_at-more [] fs n page h = absurd (none-some page h)
page_at-more (e ∷ es) fs n page h = by (is_at (nat_cmp n) e.0) h (page_at-more es fs n page)
  where
    by : (b : Bool) → cond b (Some e.1) (page_at es n) ≡ Some page → (page_at es n ≡ Some page → page_at (es ++ fs) n ≡ Some page) → cond b (Some e.1) (page_at (es ++ fs) n) ≡ Some page
    by true f rest = f
    by false f rest = rest f

page_at-last : (es : List (ℕ × PageId)) (n : ℕ) (page : PageId) → page_at es n ≡ None → page_at (es ++ (n, page) ∷ []) n ≡ Some page
page_at-last [] n page h = ap (λ b. cond b (Some page) None) (at-itself n)
page_at-last (e ∷ es) n page h = by (is_at (nat_cmp n) e.0) h (page_at-last es n page)
  where
    by : (b : Bool) → cond b (Some e.1) (page_at es n) ≡ None → (page_at es n ≡ None → page_at (es ++ (n, page) ∷ []) n ≡ Some page) → cond b (Some e.1) (page_at (es ++ (n, page) ∷ []) n) ≡ Some page
    by true f rest = absurd (none-some e.1 (sym f))
    by false f rest = rest f

-- ---- one page more

pub put_last : (es : List (ℕ × PageId)) (next : ℕ) (page : PageId) → AllByRecursion (λ e. e.0 < next) es → insert_entry nat_cmp es next page ≡ es ++ (next, page) ∷ []
put_last [] next page h = refl
put_last (e ∷ es) next page h =
    ap (λ o. match_ordering o ((next, page) ∷ e ∷ es) ((e.0, page) ∷ es) (e ∷ insert_entry nat_cmp es next page)) (greater next e.0 h.0) ∙ ap (λ fs. e ∷ fs) (put_last es next page h.1)

pub values-push : (es : List (ℕ × PageId)) (n : ℕ) (page : PageId) → values_of (es ++ (n, page) ∷ []) ≡ values_of es ++ page ∷ []
values-push [] n page = refl
values-push (e ∷ es) n page = ap (λ ps. e.1 ∷ ps) (values-push es n page)

own-more : (places places2 : List (PageId × ℕ)) (next : ℕ) (page : PageId) (e : ℕ × PageId) → place_of places page ≡ None
    → place_of places2 e.1 ≡ cond (same_page page e.1) (Some next) (place_of places e.1) → place_of places e.1 ≡ Some e.0 → place_of places2 e.1 ≡ Some e.0
own-more places places2 next page e absent put own = put ∙ by (same_page page e.1) refl
  where
    by : (b : Bool) → same_page page e.1 ≡ b → cond b (Some next) (place_of places e.1) ≡ Some e.0
    by true same = absurd (none-some e.0 (sym absent ∙ ap (place_of places) (page-same page e.1 same) ∙ own))
    by false same = own

pub placed_more : (places places2 : List (PageId × ℕ)) (pages pages2 marked : List (ℕ × PageId)) (next next2 : ℕ) (page : PageId) → IsPlaced places pages marked next
    → place_of places page ≡ None → page.index < limit.pages → ((q : PageId) → place_of places2 q ≡ cond (same_page page q) (Some next) (place_of places q))
    → pages2 ≡ insert_entry nat_cmp pages next page → IsStrictlySortedBy nat_cmp (keys_of pages2) → next < next2 → IsPlaced places2 pages2 marked next2
placed_more places places2 pages pages2 marked next next2 page is absent small put inserted rising later =
    let made : pages2 ≡ pages ++ (next, page) ∷ [] = inserted ∙ put_last pages next page is.below in
    let fresh : page_at pages next ≡ None = page_at-below pages next is.below in
    subst (λ (ps : List (ℕ × PageId)). IsPlaced places2 ps marked next2) (sym made) (record {
      rising = subst (λ (ps : List (ℕ × PageId)). IsStrictlySortedBy nat_cmp (keys_of ps)) made rising;
      below = all-push (λ (e : ℕ × PageId). e.0 < next2) pages (next, page) (all-map (λ (e : ℕ × PageId). e.0 < next) (λ (e : ℕ × PageId). e.0 < next2) pages (λ e lt. omega (arith, lt, later)) is.below) later;
      own = all-push (λ (e : ℕ × PageId). place_of places2 e.1 ≡ Some e.0) pages (next, page)
          (all-map (λ (e : ℕ × PageId). place_of places e.1 ≡ Some e.0) (λ (e : ℕ × PageId). place_of places2 e.1 ≡ Some e.0) pages (λ e own. own-more places places2 next page e absent (put e.1) own) is.own)
          (put page ∙ ap (λ b. cond b (Some next) (place_of places page)) (page-itself page));
      within = all-push (λ (e : ℕ × PageId). e.1.index < limit.pages) pages (next, page) is.within small;
      there = λ q place h. there-more q place (same_page page q) refl (sym (put q) ∙ h) fresh;
      chosen = λ place q h. page_at-more pages ((next, page) ∷ []) place q (is.chosen place q h);
    })
  where
    there-more : (q : PageId) (place : ℕ) (b : Bool) → same_page page q ≡ b → cond b (Some next) (place_of places q) ≡ Some place → page_at pages next ≡ None → page_at (pages ++ (next, page) ∷ []) place ≡ Some q
    there-more q place true same h fresh =
        subst (λ k. page_at (pages ++ (next, page) ∷ []) k ≡ Some q) (same_Some next place h) (page_at-last pages next page fresh ∙ ap (λ (p : PageId). Some p) (page-same page q same))
    there-more q place false same h fresh = page_at-more pages ((next, page) ∷ []) place q (is.there q place h)

-- ---- one mark more

pub placed_marked : (places : List (PageId × ℕ)) (pages marked marked2 : List (ℕ × PageId)) (next n : ℕ) (page : PageId) → IsPlaced places pages marked next → page_at pages n ≡ Some page
    → ((k : ℕ) → page_at marked2 k ≡ cond (is_at (nat_cmp n) k) (Some page) (page_at marked k)) → IsPlaced places pages marked2 next
placed_marked places pages marked marked2 next n page is here more = record {
  rising = is.rising;
  below = is.below;
  own = is.own;
  within = is.within;
  there = is.there;
  chosen = λ k q h. chosen-more k q (is_at (nat_cmp n) k) refl (sym (more k) ∙ h);
}
  where
    chosen-more : (k : ℕ) (q : PageId) (b : Bool) → is_at (nat_cmp n) k ≡ b → cond b (Some page) (page_at marked k) ≡ Some q → page_at pages k ≡ Some q
    chosen-more k q true at h = ap (page_at pages) (sym (at-same n k at)) ∙ here ∙ h
    chosen-more k q false at h = is.chosen k q h

-- ---- one page less

removed_is : (es : List (ℕ × PageId)) (n : ℕ) → IsStrictlySortedBy nat_cmp (keys_of es) → remove_entry (is_at (nat_cmp n)) es ≡ filter (λ e. not (is_at (nat_cmp n) e.0)) es
removed_is [] n h = refl
removed_is (e ∷ es) n h = by (is_at (nat_cmp n) e.0) refl (removed_is es n (sorted_tail nat_cmp e.0 (keys_of es) h))
  where
    apart : n ≡ e.0 → AllByRecursion (λ (f : ℕ × PageId). not (is_at (nat_cmp n) f.0) ≡ true) es
    apart same = all-map (λ (f : ℕ × PageId). nat_cmp e.0 f.0 ≡ Less) (λ (f : ℕ × PageId). not (is_at (nat_cmp n) f.0) ≡ true) es
        (λ f less. ap not (at-above n f.0 (ap (λ k. nat_cmp k f.0) same ∙ less))) (all-keys (λ k. nat_cmp e.0 k ≡ Less) es (sorted_head nat_cmp e.0 (keys_of es) h))

    by : (b : Bool) → is_at (nat_cmp n) e.0 ≡ b → remove_entry (is_at (nat_cmp n)) es ≡ filter (λ f. not (is_at (nat_cmp n) f.0)) es
        → cond b es (e ∷ remove_entry (is_at (nat_cmp n)) es) ≡ cond (not b) (e ∷ filter (λ f. not (is_at (nat_cmp n) f.0)) es) (filter (λ f. not (is_at (nat_cmp n) f.0)) es)
    by true same rest = sym (filter-all (λ (f : ℕ × PageId). not (is_at (nat_cmp n) f.0)) es (apart (at-same n e.0 same)))
    by false same rest = ap (λ fs. e ∷ fs) rest

-- a place of another page is another place
other_place : (places : List (PageId × ℕ)) (page q : PageId) (n k : ℕ) → place_of places page ≡ Some n → place_of places q ≡ Some k → page ≡ q → n ≡ k
other_place places page q n k own other same = same_Some n k (sym own ∙ ap (place_of places) same ∙ other)

-- a page of another place is another page, and the other way round
tests-agree : (places : List (PageId × ℕ)) (pages : List (ℕ × PageId)) (page : PageId) (n : ℕ) (e : ℕ × PageId) → page_at pages n ≡ Some page → place_of places page ≡ Some n
    → place_of places e.1 ≡ Some e.0 → page_at pages e.0 ≡ Some e.1 → is_at (nat_cmp n) e.0 ≡ same_page page e.1
tests-agree places pages page n e here own other there = by (is_at (nat_cmp n) e.0) (same_page page e.1) refl refl
  where
    by : (b c : Bool) → is_at (nat_cmp n) e.0 ≡ b → same_page page e.1 ≡ c → b ≡ c
    by true true h k = refl
    by false false h k = refl
    by true false h k =
        let same : page ≡ e.1 = same_Some page e.1 (sym here ∙ ap (page_at pages) (at-same n e.0 h) ∙ there) in
        absurd (true≢false (sym (page-itself page) ∙ ap (same_page page) same ∙ k))
    by false true h k = absurd (true≢false (sym (at-itself n) ∙ ap (λ m. is_at (nat_cmp n) m) (other_place places page e.1 n e.0 own other (page-same page e.1 k)) ∙ h))

all-agree : (places : List (PageId × ℕ)) (pages marked : List (ℕ × PageId)) (next : ℕ) (page : PageId) (n : ℕ) → IsPlaced places pages marked next → place_of places page ≡ Some n
    → AllByRecursion (λ e. is_at (nat_cmp n) e.0 ≡ same_page page e.1) pages
all-agree places pages marked next page n is own =
    all-map (λ (e : ℕ × PageId). place_of places e.1 ≡ Some e.0) (λ (e : ℕ × PageId). is_at (nat_cmp n) e.0 ≡ same_page page e.1) pages
    (λ e other. tests-agree places pages page n e (is.there page n own) own other (is.there e.1 e.0 other)) is.own

pub listed_less : (places : List (PageId × ℕ)) (pages pages2 marked : List (ℕ × PageId)) (next : ℕ) (page : PageId) (n : ℕ) → IsPlaced places pages marked next → place_of places page ≡ Some n
    → pages2 ≡ remove_entry (is_at (nat_cmp n)) pages → values_of pages2 ≡ without_page page (values_of pages)
listed_less places pages pages2 marked next page n is own removed =
    ap values_of (removed ∙ removed_is pages n is.rising)
    ∙ values-filter (λ (e : ℕ × PageId). not (is_at (nat_cmp n) e.0)) (λ (p : PageId). not (same_page page p)) pages
    (all-map (λ (e : ℕ × PageId). is_at (nat_cmp n) e.0 ≡ same_page page e.1) (λ (e : ℕ × PageId). not (is_at (nat_cmp n) e.0) ≡ not (same_page page e.1)) pages (λ e h. ap not h)
    (all-agree places pages marked next page n is own))

-- a page without a place is not among those listed
apart_from : (places : List (PageId × ℕ)) (page : PageId) (e : ℕ × PageId) → place_of places page ≡ None → place_of places e.1 ≡ Some e.0 → same_page page e.1 ≡ false
apart_from places page e absent own = by (same_page page e.1) refl
  where
    by : (b : Bool) → same_page page e.1 ≡ b → b ≡ false
    by true h = absurd (none-some e.0 (sym absent ∙ ap (place_of places) (page-same page e.1 h) ∙ own))
    by false h = refl

pub listed_same : (places : List (PageId × ℕ)) (pages marked : List (ℕ × PageId)) (next : ℕ) (page : PageId) → IsPlaced places pages marked next → place_of places page ≡ None
    → values_of pages ≡ without_page page (values_of pages)
listed_same places pages marked next page is absent =
    sym (filter-all (λ (p : PageId). not (same_page page p)) (values_of pages)
    (all-values (λ (p : PageId). not (same_page page p) ≡ true) pages
    (all-map (λ (e : ℕ × PageId). place_of places e.1 ≡ Some e.0) (λ (e : ℕ × PageId). not (same_page page e.1) ≡ true) pages (λ e own. ap not (apart_from places page e absent own)) is.own)))

any_at : (es : List (ℕ × PageId)) (n : ℕ) (page : PageId) → page_at es n ≡ Some page → list_any (same_page page) (values_of es) ≡ true
any_at [] n page h = absurd (none-some page h)
any_at (e ∷ es) n page h = by (is_at (nat_cmp n) e.0) h (any_at es n page)
  where
    by : (b : Bool) → cond b (Some e.1) (page_at es n) ≡ Some page → (page_at es n ≡ Some page → list_any (same_page page) (values_of es) ≡ true) → (same_page page e.1 || list_any (same_page page) (values_of es)) ≡ true
    by true f rest = ap (λ b. b || list_any (same_page page) (values_of es)) (ap (same_page page) (same_Some e.1 page f) ∙ page-itself page)
    by false f rest = or_right (same_page page e.1) (list_any (same_page page) (values_of es)) (rest f)

none_at : (page : PageId) (ps : List PageId) → AllByRecursion (λ p. same_page page p ≡ false) ps → list_any (same_page page) ps ≡ false
none_at page [] h = refl
none_at page (p ∷ ps) h = ap (λ b. b || list_any (same_page page) ps) h.0 ∙ none_at page ps h.1

-- a page is among those listed if it has a place
pub any_placed : (places : List (PageId × ℕ)) (pages marked : List (ℕ × PageId)) (next : ℕ) (page : PageId) → IsPlaced places pages marked next → list_any (same_page page) (values_of pages) ≡ is_some (place_of places page)
any_placed places pages marked next page is = by (place_of places page) refl
  where
    by : (o : Option ℕ) → place_of places page ≡ o → list_any (same_page page) (values_of pages) ≡ is_some o
    by None own = none_at page (values_of pages) (all-values (λ (p : PageId). same_page page p ≡ false) pages
        (all-map (λ (e : ℕ × PageId). place_of places e.1 ≡ Some e.0) (λ (e : ℕ × PageId). same_page page e.1 ≡ false) pages (λ e h. apart_from places page e own h) is.own))
    by (Some n) own = any_at pages n page (is.there page n own)

pub placed_less : (places places2 : List (PageId × ℕ)) (pages pages2 marked marked2 : List (ℕ × PageId)) (next : ℕ) (page : PageId) (n : ℕ) → IsPlaced places pages marked next → place_of places page ≡ Some n
    → ((q : PageId) → place_of places2 q ≡ cond (same_page page q) None (place_of places q))
    → pages2 ≡ remove_entry (is_at (nat_cmp n)) pages → ((k : ℕ) → page_at pages2 k ≡ cond (is_at (nat_cmp n) k) None (page_at pages k)) → IsStrictlySortedBy nat_cmp (keys_of pages2)
    → ((k : ℕ) → page_at marked2 k ≡ cond (is_at (nat_cmp n) k) None (page_at marked k))
    → IsPlaced places2 pages2 marked2 next
placed_less places places2 pages pages2 marked marked2 next page n is own put removed left rising unmarked =
    let kept : pages2 ≡ filter (λ (e : ℕ × PageId). not (is_at (nat_cmp n) e.0)) pages = removed ∙ removed_is pages n is.rising in
    let all : (P : ℕ × PageId → Type 0) → AllByRecursion P pages → AllByRecursion (λ (e : ℕ × PageId). P e × (not (is_at (nat_cmp n) e.0) ≡ true)) pages2 =
    (λ P h. subst (λ (ps : List (ℕ × PageId)). AllByRecursion (λ (e : ℕ × PageId). P e × (not (is_at (nat_cmp n) e.0) ≡ true)) ps) (sym kept) (all-filter P (λ (e : ℕ × PageId). not (is_at (nat_cmp n) e.0)) pages h)) in
    record {
      rising = rising;
      below = all-map (λ (e : ℕ × PageId). (e.0 < next) × (not (is_at (nat_cmp n) e.0) ≡ true)) (λ (e : ℕ × PageId). e.0 < next) pages2 (λ e h. h.0) (all (λ (e : ℕ × PageId). e.0 < next) is.below);
      own = all-map (λ (e : ℕ × PageId). (place_of places e.1 ≡ Some e.0) × (not (is_at (nat_cmp n) e.0) ≡ true)) (λ (e : ℕ × PageId). place_of places2 e.1 ≡ Some e.0) pages2
          (λ e h. put e.1 ∙ own-less e h.0 h.1 (same_page page e.1) refl) (all (λ (e : ℕ × PageId). place_of places e.1 ≡ Some e.0) is.own);
      within = all-map (λ (e : ℕ × PageId). (e.1.index < limit.pages) × (not (is_at (nat_cmp n) e.0) ≡ true)) (λ (e : ℕ × PageId). e.1.index < limit.pages) pages2 (λ e h. h.0) (all (λ (e : ℕ × PageId). e.1.index < limit.pages) is.within);
      there = λ q k h. there-less q k (same_page page q) (is_at (nat_cmp n) k) refl refl (sym (put q) ∙ h) (left k);
      chosen = λ k q h. chosen-less k q (is_at (nat_cmp n) k) (sym (unmarked k) ∙ h) (left k);
    }
  where
    own-less : (e : ℕ × PageId) → place_of places e.1 ≡ Some e.0 → not (is_at (nat_cmp n) e.0) ≡ true → (b : Bool) → same_page page e.1 ≡ b → cond b None (place_of places e.1) ≡ Some e.0
    own-less e other apart true same =
        let here : is_at (nat_cmp n) e.0 ≡ true = ap (λ m. is_at (nat_cmp n) m) (sym (other_place places page e.1 n e.0 own other (page-same page e.1 same))) ∙ at-itself n in
        absurd (false≢true (sym (ap not here) ∙ apart))
    own-less e other apart false same = other

    there-less : (q : PageId) (k : ℕ) (b c : Bool) → same_page page q ≡ b → is_at (nat_cmp n) k ≡ c → cond b None (place_of places q) ≡ Some k → page_at pages2 k ≡ cond c None (page_at pages k) → page_at pages2 k ≡ Some q
    there-less q k true c same at h after = absurd (none-some k h)
    there-less q k false true same at h after =
        let owner : page ≡ q = same_Some page q (sym (is.there page n own) ∙ ap (page_at pages) (at-same n k at) ∙ is.there q k h) in
        absurd (true≢false (sym (page-itself page) ∙ ap (same_page page) owner ∙ same))
    there-less q k false false same at h after = after ∙ is.there q k h

    chosen-less : (k : ℕ) (q : PageId) (c : Bool) → cond c None (page_at marked k) ≡ Some q → page_at pages2 k ≡ cond c None (page_at pages k) → page_at pages2 k ≡ Some q
    chosen-less k q true h after = absurd (none-some q h)
    chosen-less k q false h after = after ∙ is.chosen k q h

-- a listed page is one that a segment may have
pub listed_within : (places : List (PageId × ℕ)) (pages marked : List (ℕ × PageId)) (next : ℕ) (page : PageId) → IsPlaced places pages marked next → is_some (place_of places page) ≡ true → page.index < limit.pages
listed_within places pages marked next page is listed = by (place_of places page) refl listed
  where
    by : (o : Option ℕ) → place_of places page ≡ o → is_some o ≡ true → page.index < limit.pages
    by None own h = absurd (false≢true h)
    by (Some n) own h = page_at-all (λ (e : ℕ × PageId). e.1.index < limit.pages) pages n page is.within (is.there page n own)
