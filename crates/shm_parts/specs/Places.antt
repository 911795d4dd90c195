-- Pages at places that rise as the pages come: each page at one place, and some of the places marked.
use Rattle.std.specs.Prelude.{◌≡◌, ℕ, suc, ◌<◌, Bool, true, false, cond, List, [], ◌∷◌, filter, Option, Some, None, is_some, nat_lt}
use Rattle.std.specs.BTreeMap.{insert_entry, is_at}
use Rattle.std.specs.List.{AllByRecursion}
use Rattle.std.specs.List.Sorted.{IsStrictlySortedBy}
use Rattle.std.specs.Map.{keys_of, lookup, values_of}
use Rattle.std.specs.Ordering.{nat_cmp}
use Rattle.shm_place.specs.declared.page_id.PageId.{PageId}
use Rattle.shm_place.specs.Limits as limit
use Rattle.shm_place.specs.Page.{same_page}

abbrev pub page_at : List (ℕ × PageId) → ℕ → Option PageId
page_at pages place = lookup (is_at (nat_cmp place)) pages

abbrev pub place_of : List (PageId × ℕ) → PageId → Option ℕ
place_of places page = lookup (same_page page) places

-- the pages at their places, in the order of the places
abbrev pub in_order : List (PageId × ℕ) → List (ℕ × PageId)
in_order [] = []
in_order (e ∷ es) = insert_entry nat_cmp (in_order es) e.1 e.0

-- a place comes behind another, or behind none
abbrev pub is_behind : Option ℕ → ℕ → Bool
is_behind None place = true
is_behind (Some last) place = nat_lt last place

-- how many at the front pass a test
abbrev pub leading : {X : Type 0} → (X → Bool) → List X → ℕ
leading test [] = 0
leading test (x ∷ xs) = cond (test x) (suc (leading test xs)) 0

-- the pages behind a place, or all of them
abbrev pub pages_after : Option ℕ → List (ℕ × PageId) → List PageId
pages_after None pages = values_of pages
pages_after (Some last) pages = values_of (filter (λ e. nat_lt last e.0) pages)

-- whether this place, if any, is marked
abbrev pub is_marked_at : Option ℕ → List (ℕ × PageId) → Bool
is_marked_at None marked = false
is_marked_at (Some place) marked = is_some (page_at marked place)

-- each page knows its place and each place its page; later pages come behind all of them; only pages are marked
pub record IsPlaced (places : List (PageId × ℕ)) (pages marked : List (ℕ × PageId)) (next : ℕ) : Type 0 where
  pub rising : IsStrictlySortedBy nat_cmp (keys_of pages)
  pub below : AllByRecursion (λ e. e.0 < next) pages
  pub own : AllByRecursion (λ e. place_of places e.1 ≡ Some e.0) pages
  pub within : AllByRecursion (λ e. e.1.index < limit.pages) pages
  pub there : (page : PageId) (place : ℕ) → place_of places page ≡ Some place → page_at pages place ≡ Some page
  pub chosen : (place : ℕ) (page : PageId) → page_at marked place ≡ Some page → page_at pages place ≡ Some page
