-- The pages that have books, in the order of their first transactions, and those of them that are marked.
use Rattle.std.specs.Prelude.{◌≡◌, ℕ, Bool, false, List, ◌∷◌, ◌++◌, Option, Some, is_some}
use Rattle.std.specs.List.{AllByRecursion}
use Rattle.std.specs.Map.{values_of}
use Rattle.shm_place.specs.declared.page_id.PageId.{PageId}
use Rattle.shm_parts.specs.declared.pages_with_books.Bookings.{Bookings}
use Rattle.shm_parts.specs.Places.{in_order, is_marked_at, pages_after, place_of}

abbrev pub listed_of : {A : Type 0} → Bookings A → List PageId
listed_of b = values_of (in_order b.places.entries)

abbrev pub is_listed : {A : Type 0} → Bookings A → PageId → Bool
is_listed b page = is_some (place_of b.places.entries page)

abbrev pub is_marked : {A : Type 0} → Bookings A → PageId → Bool
is_marked b page = is_marked_at (place_of b.places.entries page) b.marked

-- the pages behind a place
abbrev pub listed_after : {A : Type 0} → Option ℕ → Bookings A → List PageId
listed_after last b = pages_after last (in_order b.places.entries)

-- none of the pages is marked
abbrev pub NoneMarked : {A : Type 0} → Bookings A → List PageId → Type 0
NoneMarked b pages = AllByRecursion (λ p. is_marked b p ≡ false) pages

-- the next place behind `last` whose page is marked
abbrev pub IsNext : {A : Type 0} → Option ℕ → Bookings A → ℕ × PageId → Type 0
IsNext last b next = (between : List PageId) × (listed_after last b ≡ between ++ next.1 ∷ listed_after (Some next.0) b) × NoneMarked b between
