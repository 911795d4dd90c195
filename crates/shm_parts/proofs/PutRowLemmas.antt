-- A page that is given a value: in its place among the rows, where it has one, or behind them.
use Rattle.std.proofs.Common.{◌≡◌, ℕ, ◌<◌, ◌≤◌, true, List, length, slice_set, Option, None, Some, is_some, unwrap_or, refl, sym, ap, subst, ◌∙◌, arith, true≢false}
use Rattle.std.proofs.lemmas.Option.{none-some}
use Rattle.std.specs.Map.{lookup}
use Rattle.indexmap.specs.IndexMap.{insert_entry}
use Rattle.shm_place.specs.declared.page_id.PageId.{PageId}
use Rattle.shm_place.specs.Page.{same_page}
use Rattle.shm_parts.specs.OrderedPages.{IsIndexed, is_found, place_in, standing}
use Rattle.shm_parts.proofs.OrderedPagesLemmas.{insert-kept}
use Rattle.shm_parts.proofs.PageRowLemmas.{absent-place, indexed-put, place-within}

-- a place that is before the end is the page's own
pub place-found : (page : PageId) (end place : ℕ) (places : List (PageId × ℕ)) → place ≡ unwrap_or (lookup (same_page page) places) end → place < end → lookup (same_page page) places ≡ Some place
place-found page end place places at less = by (lookup (same_page page) places) at
  where
    by : (o : Option ℕ) → place ≡ unwrap_or o end → o ≡ Some place
    by None is_end = let no : place ≡ end = is_end in absurd (omega (arith, no, less))
    by (Some k) is_k = ap Some (sym is_k)

module _ {V : Type 0} where
  -- a page that stands somewhere is among those that do
  pub there-lookup : (page : PageId) (k : ℕ) (rows : List (Option (PageId × V))) → place_in page rows ≡ Some k → is_some (lookup (same_page page) (standing rows)) ≡ true
  there-lookup page k rows h = by (lookup (same_page page) (standing rows)) refl
    where
      by : (o : Option V) → lookup (same_page page) (standing rows) ≡ o → is_some o ≡ true
      by None e = absurd (none-some k (sym (absent-place page rows e) ∙ h))
      by (Some v) e = refl

  -- what has a place is not absent
  pub placed-absent : (page : PageId) (places : List (PageId × ℕ)) (rows : List (Option (PageId × V))) → is_found places rows → is_some (lookup (same_page page) places) ≡ true
      → lookup (same_page page) (standing rows) ≡ None → ⊥
  placed-absent page places rows is placed absent = true≢false (sym placed ∙ ap is_some (is page ∙ absent-place page rows absent))

  -- a place at the end is no place of the page
  pub place-new : (page : PageId) (end place : ℕ) (places : List (PageId × ℕ)) (rows : List (Option (PageId × V))) → is_found places rows → end ≡ length rows
      → place ≡ unwrap_or (lookup (same_page page) places) end → end ≤ place → (lookup (same_page page) places ≡ None) × (place ≡ end)
  place-new page end place places rows is long at past = by (lookup (same_page page) places) refl at
    where
      by : (o : Option ℕ) → lookup (same_page page) places ≡ o → place ≡ unwrap_or o end → (o ≡ None) × (place ≡ end)
      by None e is_end = (refl, is_end)
      by (Some k) e is_k =
          let same : place ≡ k = is_k in
          let less = place-within page k rows (sym (is page) ∙ e) in
          absurd (omega (arith, same, less, long, past))

  -- a page gets a value in its place
  pub indexed-value : (page : PageId) (v : V) (k : ℕ) (places new : List (PageId × ℕ)) (rows : List (Option (PageId × V))) → IsIndexed places rows → lookup (same_page page) places ≡ Some k
      → new ≡ insert_entry same_page places page k → IsIndexed new (slice_set rows k (Some (page, v)))
  indexed-value page v k places new rows is at put =
      subst (λ l. IsIndexed l (slice_set rows k (Some (page, v)))) (sym (put ∙ insert-kept page k places at)) (indexed-put page v k places rows is at)
