-- Where a page stands among the stored entries, once it was looked up among them.
use Rattle.std.proofs.Common.{◌≡◌, ℕ, suc, ◌+◌, Bool, not, true, false, cond, List, [], ◌∷◌, slice_get, Option, None, Some, is_some, if◌then◌else◌, refl, sym, ap, subst, ◌∙◌, true≢false, arith}
use Rattle.std.specs.List.{position_or_len}
use Rattle.std.specs.Map.{keys_of, lookup}
use Rattle.indexmap.specs.IndexMap.{insert_entry}
use Rattle.shm_place.specs.declared.page_id.PageId.{PageId}
use Rattle.shm_place.specs.Page.{same_page}
use Rattle.shm_model.specs.Entry as model
use Rattle.shm_page.specs.Entry.{entry_of}
use Rattle.shm_page.specs.declared.entry.Entry.{Entry}
use Rattle.shm_parts.specs.Entries.{entries_of, entry_or, is_stored, stored_at}
use Rattle.shm_parts.specs.declared.page_entries.Entries.{Entries}
use Rattle.shm_parts.proofs.EntryLemmas.{entries-ensured, page-same}
use Rattle.shm_parts.proofs.OrderedPagesLemmas.{insert-kept}

module _ {X : Type 0} where
  -- a page that is put among the entries stands at its place, or at the end
  pub place-put : (page : PageId) (w : X) (es : List (PageId × X)) → slice_get (keys_of (insert_entry same_page es page w)) (position_or_len (same_page page) (keys_of es)) ≡ Some page
  place-put page w [] = refl
  place-put page w (e ∷ es) = by (same_page page e.0) (page-same page e.0) (place-put page w es)
    where
      by : (b : Bool) → (b ≡ true → page ≡ e.0) → slice_get (keys_of (insert_entry same_page es page w)) (position_or_len (same_page page) (keys_of es)) ≡ Some page
          → slice_get (keys_of (if b then (e.0, w) ∷ es else e ∷ insert_entry same_page es page w)) (cond (not b) (1 + position_or_len (same_page page) (keys_of es)) 0) ≡ Some page
      by true same rest = ap Some (sym (same refl))
      by false same rest =
          let n = position_or_len (same_page page) (keys_of es) in
          let more : suc n ≡ 1 + n = omega arith in
          subst (λ k. slice_get (keys_of (e ∷ insert_entry same_page es page w)) k ≡ Some page) more rest

  -- of the entries after the put
  pub stands-put : (now mid es : List (PageId × X)) (page : PageId) (place : ℕ) (w : X) → place ≡ position_or_len (same_page page) (keys_of es)
      → now ≡ mid → mid ≡ insert_entry same_page es page w → slice_get (keys_of now) place ≡ Some page
  stands-put now mid es page place w at is put =
      ap (slice_get (keys_of now)) at ∙ ap (λ l. slice_get (keys_of l) (position_or_len (same_page page) (keys_of es))) (is ∙ put) ∙ place-put page w es

  -- and where nothing was put, for the page was there
  pub stands-kept : (now mid es : List (PageId × X)) (page : PageId) (place : ℕ) → place ≡ position_or_len (same_page page) (keys_of es)
      → is_some (lookup (same_page page) es) ≡ true → now ≡ mid → mid ≡ es → slice_get (keys_of now) place ≡ Some page
  stands-kept now mid es page place at there is same = by (lookup (same_page page) es) refl there
    where
      by : (o : Option X) → lookup (same_page page) es ≡ o → is_some o ≡ true → slice_get (keys_of now) place ≡ Some page
      by None found h = absurd (true≢false (sym h))
      by (Some v) found h = stands-put now mid es page place v at is (same ∙ sym (insert-kept page v es found))

-- storing what an entry is anyway changes nothing
pub ensured-put : {A : Type 0} (old new : Entries A) (now : List (PageId × Entry A)) (page : PageId) (w : Entry A) → now ≡ new.map.entries
    → ((q : PageId) → stored_at new q ≡ (if same_page page q then Some w else stored_at old q)) → is_stored old page ≡ false → (rest : PageId → model.Entry) → entry_of w ≡ rest page
    → (λ q. entry_or (rest q) (lookup (same_page q) now)) ≡ entries_of rest old
ensured-put old new now page w is put fresh rest same =
    ap (λ l. λ q. entry_or (rest q) (lookup (same_page q) l)) is ∙ entries-ensured old new page w put fresh rest same
