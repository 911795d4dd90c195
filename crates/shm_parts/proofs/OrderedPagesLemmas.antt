-- How pages stand in their order after a change, and that no index among them has grown.
use Rattle.std.proofs.Common.{◌≡◌, ℕ, ◌+◌, ◌≤◌, ◌<◌, Bool, true, false, cond, not, ◌&&◌, ◌||◌, ◌==◌, nat_lt, if◌then◌else◌, filter, List, [], ◌∷◌, ◌++◌, drop, Option, None, Some, Result, Ok, Err, OnOk, OnErr, refl, sym, ap, subst, ◌∙◌, arith}
use Rattle.std.proofs.lemmas.Bool.Decides.{nat_tests}
use Rattle.std.proofs.lemmas.Option.{none-some, same_Some}
use Rattle.std.specs.Option.{option_map_or}
use Rattle.std.specs.Map.{lookup, remove_entry}
use Rattle.indexmap.specs.IndexMap.{insert_entry}
use Rattle.shm_place.specs.declared.page_id.PageId.{PageId}
use Rattle.shm_place.specs.Page.{same_page}
use Rattle.shm_parts.specs.OrderedPages.{IsWithin, moved_last, without, without_pages_of}
use Rattle.shm_parts.proofs.EntryLemmas.{page-same}

abbrev Row : Type 0 → Type 0
Row V = PageId × V

module _ {V : Type 0} where
  within_step : (last : ℕ) (b : Bool) (xs ys : List (Row V)) → IsWithin last xs → IsWithin last ys → IsWithin last (cond b xs ys)
  within_step last true xs ys x y = x
  within_step last false xs ys x y = y

  pub within-more : (last more : ℕ) (es : List (Row V)) → last ≤ more → IsWithin last es → IsWithin more es
  within-more last more [] le is = tt
  within-more last more (e ∷ es) le is = (omega (arith, le, is.0), within-more last more es le is.1)

  pub within-filter : (last : ℕ) (keep : Row V → Bool) (es : List (Row V)) → IsWithin last es → IsWithin last (filter keep es)
  within-filter last keep [] is = tt
  within-filter last keep (e ∷ es) is =
      within_step last (keep e) (e ∷ filter keep es) (filter keep es) (is.0, within-filter last keep es is.1) (within-filter last keep es is.1)

  pub within-removed : (last : ℕ) (test : PageId → Bool) (es : List (Row V)) → IsWithin last es → IsWithin last (remove_entry test es)
  within-removed last test [] is = tt
  within-removed last test (e ∷ es) is = within_step last (test e.0) es (e ∷ remove_entry test es) is.1 (is.0, within-removed last test es is.1)

  pub within-push : (last : ℕ) (es : List (Row V)) (e : Row V) → e.0.index ≤ last → IsWithin last es → IsWithin last (es ++ e ∷ [])
  within-push last [] e le is = (le, tt)
  within-push last (f ∷ es) e le is = (is.0, within-push last es e le is.1)

  pub within-insert : (last : ℕ) (es : List (Row V)) (page : PageId) (v : V) → page.index ≤ last → IsWithin last es → IsWithin last (insert_entry same_page es page v)
  within-insert last [] page v le is = (le, tt)
  within-insert last (e ∷ es) page v le is =
      within_step last (same_page page e.0) ((e.0, v) ∷ es) (e ∷ insert_entry same_page es page v) is (is.0, within-insert last es page v le is.1)

  pub within-rest : (last : ℕ) (es : List (Row V)) → IsWithin last es → IsWithin last (drop 1 es)
  within-rest last [] is = tt
  within-rest last (e ∷ es) is = is.1

  looked_step : (last : ℕ) (b : Bool) (page : PageId) (v : V) (e : Row V) (o : Option V) → (b ≡ true → page ≡ e.0) → e.0.index ≤ last → (o ≡ Some v → page.index ≤ last) → cond b (Some e.1) o ≡ Some v
      → page.index ≤ last
  looked_step last true page v e o same here rest found = subst (λ p. p.index ≤ last) (sym (same refl)) here
  looked_step last false page v e o same here rest found = rest found

  within-found : (last : ℕ) (page : PageId) (v : V) (es : List (Row V)) → IsWithin last es → lookup (same_page page) es ≡ Some v → page.index ≤ last
  within-found last page v [] is found = absurd (none-some v found)
  within-found last page v (e ∷ es) is found =
      looked_step last (same_page page e.0) page v e (lookup (same_page page) es) (page-same page e.0) is.0 (within-found last page v es is.1) found

  moved_step : (last : ℕ) (page : PageId) (es : List (Row V)) (o : Option V) → ((v : V) → o ≡ Some v → page.index ≤ last) → IsWithin last es
      → IsWithin last (option_map_or (λ v. without page es ++ (page, v) ∷ []) o es)
  moved_step last page es None found is = is
  moved_step last page es (Some v) found is = within-push last (without page es) (page, v) (found v refl) (within-filter last (λ e. not (same_page page e.0)) es is)

  pub within-moved : (last : ℕ) (page : PageId) (es : List (Row V)) → IsWithin last es → IsWithin last (moved_last page es)
  within-moved last page es is = moved_step last page es (lookup (same_page page) es) (λ v found. within-found last page v es is found) is

  insert_step : (b : Bool) (e : Row V) (es rest : List (Row V)) (page : PageId) (v : V) → cond b (Some e.1) (lookup (same_page page) es) ≡ None
      → (lookup (same_page page) es ≡ None → rest ≡ es ++ (page, v) ∷ []) → (if b then (e.0, v) ∷ es else e ∷ rest) ≡ e ∷ es ++ (page, v) ∷ []
  insert_step true e es rest page v none same = cc
  insert_step false e es rest page v none same = ap (λ l. e ∷ l) (same none)

  -- a new page goes last
  pub insert-new : (page : PageId) (v : V) (es : List (Row V)) → lookup (same_page page) es ≡ None → insert_entry same_page es page v ≡ es ++ (page, v) ∷ []
  insert-new page v [] none = refl
  insert-new page v (e ∷ es) none = insert_step (same_page page e.0) e es (insert_entry same_page es page v) page v none (insert-new page v es)

  kept_step : (b : Bool) (e : Row V) (es rest : List (Row V)) (page : PageId) (v : V) → cond b (Some e.1) (lookup (same_page page) es) ≡ Some v
      → (lookup (same_page page) es ≡ Some v → rest ≡ es) → (if b then (e.0, v) ∷ es else e ∷ rest) ≡ e ∷ es
  kept_step true e es rest page v found same = ap (λ w. (e.0, w) ∷ es) (sym (same_Some e.1 v found))
  kept_step false e es rest page v found same = ap (λ l. e ∷ l) (same found)

  -- a page that is given its own value stays
  pub insert-kept : (page : PageId) (v : V) (es : List (Row V)) → lookup (same_page page) es ≡ Some v → insert_entry same_page es page v ≡ es
  insert-kept page v [] found = absurd (none-some v found)
  insert-kept page v (e ∷ es) found = kept_step (same_page page e.0) e es (insert_entry same_page es page v) page v found (insert-kept page v es)

  inserted_step : (last : ℕ) (es new : List (Row V)) (page : PageId) (v : V) → IsWithin last es → page.index ≤ last → new ≡ insert_entry same_page es page v → IsWithin last new
  inserted_step last es new page v is le put = subst (IsWithin last) (sym put) (within-insert last es page v le is)

  -- whether or not memory was refused to it
  pub within-put : {E T : Type 0} (result : Result T E) (last : ℕ) (es new : List (Row V)) (page : PageId) (v : V) → IsWithin last es → page.index ≤ last
      → OnOk result (new ≡ insert_entry same_page es page v) → OnErr result (new ≡ es) → IsWithin last new
  within-put (Ok x) last es new page v is le put refused = inserted_step last es new page v is le put
  within-put (Err e) last es new page v is le put refused = subst (IsWithin last) (sym refused) is

module _ {X : Type 0} (p q r : X → Bool) where
  both_step : (x : X) (b c : Bool) (ys zs : List X) → c ≡ (b && p x) → filter p ys ≡ zs → filter p (cond b (x ∷ ys) ys) ≡ cond c (x ∷ zs) zs
  both_step x true c ys zs h same = ap (λ l. cond (p x) (x ∷ l) l) same ∙ ap (λ b. cond b (x ∷ zs) zs) (sym h)
  both_step x false c ys zs h same = same ∙ ap (λ b. cond b (x ∷ zs) zs) (sym h)

  -- two tests after one another are one
  pub filter-both : ((x : X) → r x ≡ (q x && p x)) → (xs : List X) → filter p (filter q xs) ≡ filter r xs
  filter-both h [] = refl
  filter-both h (x ∷ xs) = both_step x (q x) (r x) (filter q xs) (filter r xs) (h x) (filter-both h xs)

next-below : (i x : ℕ) → nat_lt x (i + 1) ≡ ((i == x) || nat_lt x i)
next-below i x = grind (arith, nat_tests)

neither : (a b c : Bool) → not (a && (b || c)) ≡ (not (a && c) && not (a && b))
neither true true true = refl
neither true true false = refl
neither true false true = refl
neither true false false = refl
neither false b c = refl

none-below : (b : Bool) (x : ℕ) → true ≡ not (b && nat_lt x 0)
none-below b x = grind (arith, nat_tests)

-- the segment's pages whose index is below a bound are gone
abbrev pub gone_below : {V : Type 0} → ℕ → ℕ → List (PageId × V) → List (PageId × V)
gone_below id i es = filter (λ e. not ((id == e.0.seg) && nat_lt e.0.index i)) es

module _ {V : Type 0} where
  pub gone-none : (id : ℕ) (es : List (PageId × V)) → es ≡ gone_below id 0 es
  gone-none id [] = refl
  gone-none id (e ∷ es) =
      ap (λ l. e ∷ l) (gone-none id es)
      ∙ ap (λ b. cond b (e ∷ gone_below id 0 es) (gone_below id 0 es)) (none-below (id == e.0.seg) e.0.index)

  -- one index more
  pub gone-next : (id i : ℕ) (es : List (PageId × V)) → without (record { seg = id; index = i }) (gone_below id i es) ≡ gone_below id (i + 1) es
  gone-next id i es =
      filter-both (λ e. not ((id == e.0.seg) && (i == e.0.index))) (λ e. not ((id == e.0.seg) && nat_lt e.0.index i)) (λ e. not ((id == e.0.seg) && nat_lt e.0.index (i + 1)))
      (λ e. ap (λ b. not ((id == e.0.seg) && b)) (next-below i e.0.index) ∙ neither (id == e.0.seg) (i == e.0.index) (nat_lt e.0.index i)) es

  all_step : (b c : Bool) (e : PageId × V) (xs ys : List (PageId × V)) → c ≡ true → xs ≡ ys → cond (not (b && c)) (e ∷ xs) xs ≡ cond (not b) (e ∷ ys) ys
  all_step true c e xs ys h same = ap (λ t. cond (not t) (e ∷ xs) xs) h ∙ same
  all_step false c e xs ys h same = ap (λ l. e ∷ l) same

  -- past the greatest index all of them are gone
  pub gone-all : (id last i : ℕ) (es : List (PageId × V)) → last < i → IsWithin last es → gone_below id i es ≡ without_pages_of id es
  gone-all id last i [] past is = refl
  gone-all id last i (e ∷ es) past is =
      all_step (id == e.0.seg) (nat_lt e.0.index i) e (gone_below id i es) (without_pages_of id es) (grind (arith, nat_tests, past, is.0)) (gone-all id last i es past is.1)
