-- The next page that is marked, and those that are passed over.
use Rattle.std.proofs.Common.{◌≡◌, ◌<◌, ◌≤◌, ℕ, Bool, true, false, cond, nat_lt, List, [], ◌∷◌, ◌++◌, filter, Option, Some, None, IfNone, IfSome, is_some, nat_cmp, Less, refl, sym, ap, subst, ◌∙◌, arith}
use Rattle.std.proofs.lemmas.Bool.Decides.{nat_tests}
use Rattle.std.proofs.lemmas.Map.{lookup-none}
use Rattle.std.proofs.lemmas.Map.Keys.{sorted_head, sorted_tail}
use Rattle.std.proofs.lemmas.Option.{same_Some, none-some}
use Rattle.std.specs.BTreeMap.{is_at}
use Rattle.std.specs.List.{AllByRecursion}
use Rattle.std.specs.List.Sorted.{IsStrictlySortedBy}
use Rattle.std.specs.Map.{keys_of, values_of}
use Rattle.shm_place.specs.declared.page_id.PageId.{PageId}
use Rattle.shm_parts.specs.Places.{IsPlaced, is_behind, is_marked_at, page_at, pages_after, place_of}
use Rattle.shm_parts.proofs.ListLemmas.{all-filter, all-keys, all-map, all-values, filter-agree, filter-all}
use Rattle.shm_parts.proofs.PlaceLemmas.{above, at-over, at-same, page_at-all}

-- the pages behind a place
abbrev behind : Option ℕ → List (ℕ × PageId) → List PageId
behind last pages = values_of (filter (λ e. is_behind last e.0) pages)

after_is : (last : Option ℕ) (pages : List (ℕ × PageId)) → pages_after last pages ≡ behind last pages
after_is None pages = sym (ap values_of (filter-all (λ (e : ℕ × PageId). true) pages (all_true pages)))
  where
    all_true : (es : List (ℕ × PageId)) → AllByRecursion (λ e. true ≡ true) es
    all_true [] = record {}
    all_true (e ∷ es) = (refl, all_true es)
after_is (Some last) pages = refl

-- the pages up to the next marked one, and those behind it
pub record Found (last : Option ℕ) (n : ℕ) (page : PageId) (pages : List (ℕ × PageId)) (P : PageId → Type 0) : Type 0 where
  pub between : List PageId
  pub parts : behind last pages ≡ between ++ page ∷ behind (Some n) pages
  pub idle : AllByRecursion P between

later : (last : Option ℕ) (n k : ℕ) → is_behind last n ≡ true → n < k → is_behind last k ≡ true
later None n k h lt = refl
later (Some m) n k h lt = grind (arith, nat_tests)

past : (n k : ℕ) → n < k → nat_lt n k ≡ true
past n k h = grind (arith, nat_tests)

not_past : (n k : ℕ) → k ≤ n → nat_lt n k ≡ false
not_past n k h = grind (arith, nat_tests)

-- all of them come behind both places
behind_same : (last : Option ℕ) (n : ℕ) (es : List (ℕ × PageId)) → is_behind last n ≡ true → AllByRecursion (λ e. n < e.0) es → behind last es ≡ behind (Some n) es
behind_same last n es h above =
    ap values_of (filter-agree (λ (e : ℕ × PageId). is_behind last e.0) (λ (e : ℕ × PageId). nat_lt n e.0) es
    (all-map (λ (e : ℕ × PageId). n < e.0) (λ (e : ℕ × PageId). is_behind last e.0 ≡ nat_lt n e.0) es (λ e lt. later last n e.0 h lt ∙ sym (past n e.0 lt)) above))

found_here : (last : Option ℕ) (n : ℕ) (page : PageId) (e : ℕ × PageId) (es : List (ℕ × PageId)) (P : PageId → Type 0) → is_behind last n ≡ true → n ≡ e.0 → e.1 ≡ page → AllByRecursion (λ f. n < f.0) es → Found last n page (e ∷ es) P
found_here last n page e es P h same own above =
    let first : is_behind last e.0 ≡ true = ap (is_behind last) (sym same) ∙ h in
    let gone : nat_lt n e.0 ≡ false = not_past n e.0 (omega (arith, same)) in
    record {
      between = [];
      parts = ap (λ b. values_of (cond b (e ∷ filter (λ (f : ℕ × PageId). is_behind last f.0) es) (filter (λ (f : ℕ × PageId). is_behind last f.0) es))) first
          ∙ ap (λ (p : PageId). p ∷ behind last es) own ∙ ap (λ ps. page ∷ ps) (behind_same last n es h above)
          ∙ ap (λ b. page ∷ values_of (cond b (e ∷ filter (λ (f : ℕ × PageId). nat_lt n f.0) es) (filter (λ (f : ℕ × PageId). nat_lt n f.0) es))) (sym gone);
      idle = record {};
    }

found_later : (last : Option ℕ) (n : ℕ) (page : PageId) (e : ℕ × PageId) (es : List (ℕ × PageId)) (P : PageId → Type 0) (b : Bool) → is_behind last e.0 ≡ b → (b ≡ true → P e.1) → nat_lt n e.0 ≡ false → Found last n page es P → Found last n page (e ∷ es) P
found_later last n page e es P b here quiet gone rest = record {
  between = cond b (e.1 ∷ rest.between) rest.between;
  parts = ap (λ c. values_of (cond c (e ∷ filter (λ (f : ℕ × PageId). is_behind last f.0) es) (filter (λ (f : ℕ × PageId). is_behind last f.0) es))) here
      ∙ shift b ∙ ap (λ c. cond b (e.1 ∷ rest.between) rest.between ++ page ∷ values_of (cond c (e ∷ filter (λ (f : ℕ × PageId). nat_lt n f.0) es) (filter (λ (f : ℕ × PageId). nat_lt n f.0) es))) (sym gone);
  idle = idle_with b quiet;
}
  where
    shift : (c : Bool) → values_of (cond c (e ∷ filter (λ (f : ℕ × PageId). is_behind last f.0) es) (filter (λ (f : ℕ × PageId). is_behind last f.0) es)) ≡ cond c (e.1 ∷ rest.between) rest.between ++ page ∷ behind (Some n) es
    shift true = ap (λ ps. e.1 ∷ ps) rest.parts
    shift false = rest.parts

    idle_with : (c : Bool) → (c ≡ true → P e.1) → AllByRecursion P (cond c (e.1 ∷ rest.between) rest.between)
    idle_with true q = (q refl, rest.idle)
    idle_with false q = rest.idle

before : (k n : ℕ) → nat_lt k n ≡ true → k < n
before k n h = grind (arith, nat_tests)

beyond : (k n : ℕ) → nat_lt k n ≡ false → is_at (nat_cmp n) k ≡ false → n < k
beyond k n h apart = grind (arith, nat_tests)

past_both : (n k j : ℕ) → n < k → nat_cmp k j ≡ Less → n < j
past_both n k j over less = let next = above k j less in omega (arith, over, next)

page_at-above : (es : List (ℕ × PageId)) (n : ℕ) → AllByRecursion (λ e. n < e.0) es → page_at es n ≡ None
page_at-above es n h = lookup-none (is_at (nat_cmp n)) es (all-map (λ (e : ℕ × PageId). n < e.0) (λ (e : ℕ × PageId). is_at (nat_cmp n) e.0 ≡ false) es (λ e lt. at-over n e.0 lt) h)

-- P holds of each page behind the last place whose place is below the next one
pub found : (last : Option ℕ) (n : ℕ) (page : PageId) (es : List (ℕ × PageId)) (P : PageId → Type 0) → IsStrictlySortedBy nat_cmp (keys_of es) → is_behind last n ≡ true → page_at es n ≡ Some page
    → AllByRecursion (λ e. is_behind last e.0 ≡ true → e.0 < n → P e.1) es → Found last n page es P
found last n page [] P rising h here quiet = absurd (none-some page here)
found last n page (e ∷ es) P rising h here quiet =
    by (is_at (nat_cmp n) e.0) (nat_lt e.0 n) refl refl here (λ k. found last n page es P (sorted_tail nat_cmp e.0 (keys_of es) rising) h k quiet.1)
  where
    aboves : AllByRecursion (λ (f : ℕ × PageId). nat_cmp e.0 f.0 ≡ Less) es
    aboves = all-keys (λ k. nat_cmp e.0 k ≡ Less) es (sorted_head nat_cmp e.0 (keys_of es) rising)

    by : (b c : Bool) → is_at (nat_cmp n) e.0 ≡ b → nat_lt e.0 n ≡ c → cond b (Some e.1) (page_at es n) ≡ Some page → (page_at es n ≡ Some page → Found last n page es P) → Found last n page (e ∷ es) P
    by true c at lt is rest =
        let same = at-same n e.0 at in
        found_here last n page e es P h same (same_Some e.1 page is) (all-map (λ (f : ℕ × PageId). nat_cmp e.0 f.0 ≡ Less) (λ (f : ℕ × PageId). n < f.0) es (λ f less. above n f.0 (ap (λ k. nat_cmp k f.0) same ∙ less)) aboves)
    by false true at lt is rest =
        let below = before e.0 n lt in
        found_later last n page e es P (is_behind last e.0) refl (λ k. quiet.0 k below) (not_past n e.0 (omega (arith, below))) (rest is)
    by false false at lt is rest =
        let over = beyond e.0 n lt at in
        absurd (none-some page (sym (page_at-above es n (all-map (λ (f : ℕ × PageId). nat_cmp e.0 f.0 ≡ Less) (λ (f : ℕ × PageId). n < f.0) es (λ f less. past_both n e.0 f.0 over less) aboves)) ∙ is))

pub none_found : (last : Option ℕ) (es : List (ℕ × PageId)) (P : PageId → Type 0) → AllByRecursion (λ e. is_behind last e.0 ≡ true → P e.1) es → AllByRecursion P (behind last es)
none_found last es P h =
    all-values P (filter (λ (e : ℕ × PageId). is_behind last e.0) es)
    (all-map (λ (e : ℕ × PageId). (is_behind last e.0 ≡ true → P e.1) × (is_behind last e.0 ≡ true)) (λ (e : ℕ × PageId). P e.1) (filter (λ (e : ℕ × PageId). is_behind last e.0) es) (λ e both. both.0 both.1)
    (all-filter (λ (e : ℕ × PageId). is_behind last e.0 ≡ true → P e.1) (λ (e : ℕ × PageId). is_behind last e.0) es h))

quiet_before : (places : List (PageId × ℕ)) (marked : List (ℕ × PageId)) (last : Option ℕ) (n : ℕ) (e : ℕ × PageId) → place_of places e.1 ≡ Some e.0
    → ((place : ℕ) → is_behind last place ≡ true → is_some (page_at marked place) ≡ true → n ≤ place) → is_behind last e.0 ≡ true → e.0 < n → is_marked_at (place_of places e.1) marked ≡ false
quiet_before places marked last n e own least back below = ap (λ o. is_marked_at o marked) own ∙ by (is_some (page_at marked e.0)) refl
  where
    by : (b : Bool) → is_some (page_at marked e.0) ≡ b → b ≡ false
    by true h = absurd (let no_less = least e.0 back h in omega (arith, no_less, below))
    by false h = refl

pub next_is : (places : List (PageId × ℕ)) (pages marked : List (ℕ × PageId)) (next : ℕ) (last : Option ℕ) (r : Option (ℕ × PageId)) → IsPlaced places pages marked next
    → IfSome r (λ r. page_at marked r.0 ≡ Some r.1) → IfSome r (λ r. is_behind last r.0 ≡ true) → IfSome r (λ r. (place : ℕ) → is_behind last place ≡ true → is_some (page_at marked place) ≡ true → r.0 ≤ place)
    → IfSome r (λ r. (between : List PageId) × (pages_after last pages ≡ between ++ r.1 ∷ pages_after (Some r.0) pages) × AllByRecursion (λ p. is_marked_at (place_of places p) marked ≡ false) between)
next_is places pages marked next last None is here back least = here
next_is places pages marked next last (Some (n, page)) is here back least =
    let next_one = found last n page pages (λ p. is_marked_at (place_of places p) marked ≡ false) is.rising back (is.chosen n page here)
    (all-map (λ (e : ℕ × PageId). place_of places e.1 ≡ Some e.0) (λ (e : ℕ × PageId). is_behind last e.0 ≡ true → e.0 < n → is_marked_at (place_of places e.1) marked ≡ false) pages
    (λ e own. quiet_before places marked last n e own least) is.own) in
    (next_one.between, after_is last pages ∙ next_one.parts, next_one.idle)

pub rest_is : (places : List (PageId × ℕ)) (pages marked : List (ℕ × PageId)) (next : ℕ) (last : Option ℕ) (r : Option (ℕ × PageId)) → IsPlaced places pages marked next
    → IfNone r ((place : ℕ) → is_behind last place ≡ true → page_at marked place ≡ None)
    → IfNone r (AllByRecursion (λ p. is_marked_at (place_of places p) marked ≡ false) (pages_after last pages))
rest_is places pages marked next last None is none =
    subst (λ (ps : List PageId). AllByRecursion (λ p. is_marked_at (place_of places p) marked ≡ false) ps) (sym (after_is last pages))
    (none_found last pages (λ p. is_marked_at (place_of places p) marked ≡ false)
    (all-map (λ (e : ℕ × PageId). place_of places e.1 ≡ Some e.0) (λ (e : ℕ × PageId). is_behind last e.0 ≡ true → is_marked_at (place_of places e.1) marked ≡ false) pages
    (λ e own back. ap (λ o. is_marked_at o marked) own ∙ ap is_some (none e.0 back)) is.own))
rest_is places pages marked next last (Some x) is none = none

pub next_there : (places : List (PageId × ℕ)) (pages marked : List (ℕ × PageId)) (next : ℕ) (r : Option (ℕ × PageId)) → IsPlaced places pages marked next
    → IfSome r (λ r. page_at marked r.0 ≡ Some r.1) → IfSome r (λ r. is_some (place_of places r.1) ≡ true)
next_there places pages marked next None is here = here
next_there places pages marked next (Some (n, page)) is here =
    ap is_some (page_at-all (λ (e : ℕ × PageId). place_of places e.1 ≡ Some e.0) pages n page is.own (is.chosen n page here))
