-- What is stored, as lists: what they say of each page and each segment is what is stored of it.
use Rattle.std.proofs.Common.{◌≡◌, ◌∙◌, ◌==◌, ◌||◌, ◌+◌, ℕ, zero, suc, Bool, true, false, cond, List, [], ◌∷◌, ◌++◌, map, take, slice_get, Option, Some, None, is_some, option_map, unwrap_or, if◌then◌else◌, refl, ap, sym, subst, true≢false, arith}
use Rattle.std.proofs.Math.Path.{fun_ext}
use Rattle.std.proofs.lemmas.Bool.{false≢true}
use Rattle.std.proofs.lemmas.Bool.Decides.{nat_tests}
use Rattle.std.proofs.lemmas.List.Folds.{list_any-append}
use Rattle.std.proofs.lemmas.Map.Keys.{IsDistinct-head, IsDistinct-tail}
use Rattle.std.proofs.lemmas.Option.{none-some, same_Some}
use Rattle.std.specs.List.{AllByRecursion, IsDistinct, list_any}
use Rattle.std.specs.Map.{keys_of, lookup}
use Rattle.shm_place.specs.declared.page_id.PageId.{PageId}
use Rattle.shm_place.specs.Page.{same_page}
use Rattle.shm_model.specs.Basics.{at, at_page}
use Rattle.shm_model.specs.Entry as model
use Rattle.shm_page.specs.Entry.{entry_of}
use Rattle.shm_page.specs.declared.entry.Entry.{Entry}
use Rattle.shm_parts.specs.Entries.{entry_or, is_stored, stored_at}
use Rattle.shm_parts.specs.Listed.{filled, page_and_entry, purged_in}
use Rattle.shm_parts.specs.declared.page_entries.Entries.{Entries}
use Rattle.shm_parts.proofs.BookSteps.{list_any-keys}
use Rattle.shm_parts.proofs.EntryLemmas.{page-same, same-page}

pub same_page-turned : (p q : PageId) → same_page q p ≡ same_page p q
same_page-turned p q = grind (arith, nat_tests)

one_more : (i : ℕ) → suc i ≡ i + 1
one_more i = omega (arith)

module _ {X : Type 0} where
  -- one value more at the end
  pub filled-push : (f : PageId → X) (es : List (PageId × X)) (page : PageId) (value : X) → filled f (es ++ (page, value) ∷ []) ≡ at_page (filled f es) page value
  filled-push f [] page value = refl
  filled-push f (e ∷ es) page value = filled-push (at_page f e.0 e.1) es page value

  -- the place behind those that were gone over
  pub take-next : (es : List X) (i : ℕ) (e : X) → slice_get es i ≡ Some e → take (i + 1) es ≡ take i es ++ e ∷ []
  take-next es i e at = subst (λ n. take n es ≡ take i es ++ e ∷ []) (one_more i) (next es i e at)
    where
      next : (es : List X) (i : ℕ) (e : X) → slice_get es i ≡ Some e → take (suc i) es ≡ take i es ++ e ∷ []
      next [] i e at = absurd (none-some e at)
      next (x ∷ xs) zero e at = ap (λ (y : X). y ∷ []) (same_Some x e at)
      next (x ∷ xs) (suc i) e at = ap (λ (ys : List X). x ∷ ys) (next xs i e at)

  here : (a : Bool) (o : Option X) (value rest : X) → o ≡ Some value → (if a then unwrap_or o value else value) ≡ unwrap_or o rest
  here a None value rest found = absurd (none-some value found)
  here true (Some x) value rest found = refl
  here false (Some x) value rest found = sym (same_Some x value found)

  -- where each value that is put is what a function says of its page, that is what stands at each page that has one
  pub filled-at : (f : PageId → X) (get : PageId → Option X) (es : List (PageId × X)) (page : PageId) → AllByRecursion (λ e. get e.0 ≡ Some e.1) es
      → filled f es page ≡ (if list_any (same_page page) (keys_of es) then unwrap_or (get page) (f page) else f page)
  filled-at f get [] page all = refl
  filled-at f get (e ∷ es) page all =
      filled-at (at_page f e.0 e.1) get es page all.1
      ∙ by (same_page e.0 page) (same_page page e.0) (list_any (same_page page) (keys_of es)) (same_page-turned e.0 page) (λ same. ap get (sym (page-same e.0 page same)) ∙ all.0)
    where
      by : (s t a : Bool) → t ≡ s → (s ≡ true → get page ≡ Some e.1)
          → (if a then unwrap_or (get page) (if s then e.1 else f page) else (if s then e.1 else f page)) ≡ (if t || a then unwrap_or (get page) (f page) else f page)
      by true true a turned found = here a (get page) e.1 (f page) (found refl)
      by false false a turned found = refl
      by true false a turned found = absurd (true≢false (sym turned))
      by false true a turned found = absurd (true≢false turned)

  -- each value is found by its page
  pub each_found : (es : List (PageId × X)) → IsDistinct same_page (keys_of es) → AllByRecursion (λ e. lookup (same_page e.0) es ≡ Some e.1) es
  each_found [] distinct = record {}
  each_found (e ∷ es) distinct =
      (ap (λ b. cond b (Some e.1) (lookup (same_page e.0) es)) (same-page e.0), others es (IsDistinct-head same_page e.0 (keys_of es) distinct) (each_found es (IsDistinct-tail same_page e.0 (keys_of es) distinct)))
    where
      others : (fs : List (PageId × X)) → AllByRecursion (λ p. same_page e.0 p ≡ false) (keys_of fs) → AllByRecursion (λ f. lookup (same_page f.0) es ≡ Some f.1) fs → AllByRecursion (λ f. lookup (same_page f.0) (e ∷ es) ≡ Some f.1) fs
      others [] apart own = record {}
      others (f ∷ fs) apart own = (ap (λ b. cond b (Some e.1) (lookup (same_page f.0) es)) (same_page-turned e.0 f.0 ∙ apart.0) ∙ own.0, others fs apart.1 own.1)

-- one segment more is purged
pub purged-push : (ids : List ℕ) (id : ℕ) → purged_in (ids ++ id ∷ []) ≡ at (purged_in ids) id true
purged-push ids id = fun_ext (λ (k : ℕ). list_any-append (λ (key : ℕ). k == key) ids (id ∷ []) ∙ by (purged_in ids k) (k == id) (id == k) (eq-turned k id))
  where
    eq-turned : (k n : ℕ) → (k == n) ≡ (n == k)
    eq-turned k n = grind (arith, nat_tests)

    by : (a b c : Bool) → b ≡ c → (a || (b || false)) ≡ (if c then true else a)
    by true true true same = refl
    by false true true same = refl
    by true false false same = refl
    by false false false same = refl
    by a true false same = absurd (true≢false same)
    by a false true same = absurd (true≢false (sym same))

module _ {A : Type 0} where
  each_shown : (get : PageId → Option (Entry A)) (es : List (PageId × Entry A)) → AllByRecursion (λ e. get e.0 ≡ Some e.1) es → AllByRecursion (λ e. option_map entry_of (get e.0) ≡ Some e.1) (map page_and_entry es)
  each_shown get [] all = record {}
  each_shown get (e ∷ es) all = (ap (option_map entry_of) all.0, each_shown get es all.1)

  keys_shown : (es : List (PageId × Entry A)) → keys_of (map page_and_entry es) ≡ keys_of es
  keys_shown [] = refl
  keys_shown (e ∷ es) = ap (λ (l : List PageId). e.0 ∷ l) (keys_shown es)

  -- a page is in the list if something is stored of it
  pub any_stored : (es : List (PageId × Entry A)) (page : PageId) → list_any (same_page page) (keys_of (map page_and_entry es)) ≡ is_some (lookup (same_page page) es)
  any_stored es page = ap (list_any (same_page page)) (keys_shown es) ∙ list_any-keys (same_page page) es

  -- the stored entries are those of the list
  pub stored_filled : (es : List (PageId × Entry A)) → IsDistinct same_page (keys_of es) → (rest : PageId → model.Entry) (page : PageId)
      → entry_or (rest page) (lookup (same_page page) es) ≡ filled rest (map page_and_entry es) page
  stored_filled es distinct rest page =
      by (lookup (same_page page) es) (list_any (same_page page) (keys_of (map page_and_entry es))) (any_stored es page)
      ∙ sym (filled-at rest (λ p. option_map entry_of (lookup (same_page p) es)) (map page_and_entry es) page (each_shown (λ p. lookup (same_page p) es) es (each_found es distinct)))
    where
      by : (o : Option (Entry A)) (a : Bool) → a ≡ is_some o → entry_or (rest page) o ≡ (if a then unwrap_or (option_map entry_of o) (rest page) else rest page)
      by None true is = absurd (true≢false is)
      by None false is = refl
      by (Some v) true is = refl
      by (Some v) false is = absurd (false≢true is)

  -- one entry more is stored
  pub stored-joined : (old new : Entries A) (page : PageId) (w : Entry A) → ((q : PageId) → stored_at new q ≡ (if same_page page q then Some w else stored_at old q))
      → is_stored new ≡ at_page (is_stored old) page true
  stored-joined old new page w put = fun_ext (λ q. ap is_some (put q) ∙ by (same_page page q) (stored_at old q))
    where
      by : (b : Bool) (o : Option (Entry A)) → is_some (if b then Some w else o) ≡ (if b then true else is_some o)
      by true o = refl
      by false o = refl
