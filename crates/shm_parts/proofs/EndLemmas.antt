-- The index behind all pages of a segment, found as one goes over a map.
use Rattle.std.proofs.Common.{◌≡◌, ◌+◌, ℕ, zero, suc, Bool, true, false, List, [], ◌∷◌, take, slice_get, Some, None, is_some, if◌then◌else◌, refl, sym, ap, subst, ◌∙◌, true≢false, arith}
use Rattle.std.proofs.lemmas.Option.{same_Some}
use Rattle.std.specs.List.{AllByRecursion}
use Rattle.std.specs.Map.{lookup}
use Rattle.shm_place.specs.declared.page_id.PageId.{PageId}
use Rattle.shm_place.specs.Page.{same_page}
use Rattle.shm_parts.specs.Ends.{is_past}
use Rattle.shm_parts.proofs.EntryLemmas.{page-same}
use Rattle.shm_parts.proofs.ListLemmas.{all-map}

-- no page of these is past the end
abbrev pub NonePast : {X : Type 0} → ℕ → ℕ → List (PageId × X) → Type 0
NonePast id end es = AllByRecursion (λ e. is_past id end e.0 ≡ false) es

one_more : (i : ℕ) → suc i ≡ i + 1
one_more i = omega (arith)

module _ {X : Type 0} (id : ℕ) where
  next_past : (end : ℕ) (es : List (PageId × X)) (i : ℕ) (e : PageId × X) → slice_get es i ≡ Some e → is_past id end e.0 ≡ false → NonePast id end (take i es) → NonePast id end (take (suc i) es)
  next_past end [] i e at own so_far = absurd (true≢false (sym (ap is_some at)))
  next_past end (x ∷ xs) zero e at own so_far = (ap (λ (y : PageId × X). is_past id end y.0) (same_Some x e at) ∙ own, so_far)
  next_past end (x ∷ xs) (suc i) e at own so_far = (so_far.0, next_past end xs i e at own so_far.1)

  pub past_more : (end next : ℕ) (es : List (PageId × X)) (i : ℕ) (e : PageId × X) → slice_get es i ≡ Some e → ((p : PageId) → is_past id end p ≡ false → is_past id next p ≡ false) → is_past id next e.0 ≡ false
      → NonePast id end (take i es) → NonePast id next (take (i + 1) es)
  past_more end next es i e at keeps own so_far = subst (λ n. NonePast id next (take n es)) (one_more i)
      (next_past next es i e at own (all-map (λ (y : PageId × X). is_past id end y.0 ≡ false) (λ (y : PageId × X). is_past id next y.0 ≡ false) (take i es) (λ y. keeps y.0) so_far))

  -- a page that is past the end isn't among them
  pub none_past : (end : ℕ) (es : List (PageId × X)) (page : PageId) → NonePast id end es → is_past id end page ≡ true → lookup (same_page page) es ≡ None
  none_past end [] page none past = refl
  none_past end (e ∷ es) page none past = by (same_page page e.0) refl (none_past end es page none.1 past)
    where
      by : (b : Bool) → same_page page e.0 ≡ b → lookup (same_page page) es ≡ None → (if b then Some e.1 else lookup (same_page page) es) ≡ None
      by true same rest = absurd (true≢false (sym past ∙ ap (is_past id end) (page-same page e.0 same) ∙ none.0))
      by false other rest = rest
