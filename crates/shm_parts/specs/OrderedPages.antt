-- Pages in the order in which they joined, each with a value: how they stand at places, some of which are empty.
use Rattle.std.specs.Prelude.{◌≡◌, ℕ, suc, ◌≤◌, ◌==◌, ◌&&◌, Bool, true, false, cond, not, List, [], ◌∷◌, ◌++◌, Option, Some, None, is_some, filter, length, ⊤}
use Rattle.std.specs.Map.{lookup}
use Rattle.std.specs.Option.{option_map, option_map_or}
use Rattle.shm_place.specs.declared.page_id.PageId.{PageId}
use Rattle.shm_place.specs.Page.{same_page}

module _ {V : Type 0} where
  -- the pages that stand somewhere
  abbrev pub standing : List (Option (PageId × V)) → List (PageId × V)
  standing [] = []
  standing (None ∷ rows) = standing rows
  standing (Some e ∷ rows) = e ∷ standing rows

  abbrev pub holds : PageId → Option (PageId × V) → Bool
  holds page None = false
  holds page (Some e) = same_page page e.0

  -- where the page stands
  abbrev pub place_in : PageId → List (Option (PageId × V)) → Option ℕ
  place_in page [] = None
  place_in page (row ∷ rows) = cond (holds page row) (Some 0) (option_map (λ n. suc n) (place_in page rows))

  -- no page stands at two places
  abbrev pub is_apart : List (Option (PageId × V)) → Bool
  is_apart [] = true
  is_apart (None ∷ rows) = is_apart rows
  is_apart (Some e ∷ rows) = not (is_some (place_in e.0 rows)) && is_apart rows

  -- each page's place is where it stands
  abbrev pub is_found : List (PageId × ℕ) → List (Option (PageId × V)) → Type 0
  is_found places rows = (page : PageId) → lookup (same_page page) places ≡ place_in page rows

  pub record IsIndexed (places : List (PageId × ℕ)) (rows : List (Option (PageId × V))) : Type 0 where
    pub found : is_found places rows
    pub apart : is_apart rows ≡ true
    pub count : length places ≡ length (standing rows)

  -- no page has a greater index in its segment
  abbrev pub IsWithin : ℕ → List (PageId × V) → Type 0
  IsWithin last [] = ⊤
  IsWithin last (e ∷ es) = (e.0.index ≤ last) × IsWithin last es

  abbrev pub without : PageId → List (PageId × V) → List (PageId × V)
  without page entries = filter (λ e. not (same_page page e.0)) entries

  -- the page at the end, if it is there
  abbrev pub moved_last : PageId → List (PageId × V) → List (PageId × V)
  moved_last page entries = option_map_or (λ value. without page entries ++ (page, value) ∷ []) (lookup (same_page page) entries) entries

  abbrev pub without_pages_of : ℕ → List (PageId × V) → List (PageId × V)
  without_pages_of id entries = filter (λ e. not (id == e.0.seg)) entries

  abbrev pub first_page : List (PageId × V) → Option PageId
  first_page [] = None
  first_page (e ∷ es) = Some e.0
