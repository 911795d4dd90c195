-- What a site has stored, as lists in the order of its places; and what such lists say of each page and of each segment.
use Rattle.std.specs.Prelude.{◌≡◌, ℕ, ◌==◌, Bool, true, false, List, [], ◌∷◌, map, Option, Some, None}
use Rattle.std.specs.List.{IsDistinct, list_any}
use Rattle.std.specs.Map.{keys_of}
use Rattle.shm_place.specs.declared.page_id.PageId.{PageId}
use Rattle.shm_place.specs.Page.{same_page}
use Rattle.shm_model.specs.Basics.{at_page}
use Rattle.shm_model.specs.Book as book
use Rattle.shm_model.specs.Entry as model
use Rattle.shm_model.specs.Calls.{Attachment}
use Rattle.shm_model.specs.Site.{Frames}
use Rattle.shm_attach.specs.Attachments.{attachments_of}
use Rattle.shm_page.specs.Entry.{entry_of}
use Rattle.shm_page.specs.declared.entry.Entry.{Entry}
use Rattle.shm_parts.specs.Books.{booked_of, books_of}
use Rattle.shm_parts.specs.declared.books.Books.{Books}
use Rattle.shm_parts.specs.declared.page_entries.Entries.{Entries}
use Rattle.shm_parts.specs.declared.purged_segments.Purged.{Purged}

-- a function of the page with these values put, one after the other
abbrev pub filled : {X : Type 0} → (PageId → X) → List (PageId × X) → PageId → X
filled f [] = f
filled f (e ∷ es) = filled (at_page f e.0 e.1) es

abbrev pub page_and_entry : {A : Type 0} → PageId × Entry A → PageId × model.Entry
page_and_entry e = (e.0, entry_of e.1)

abbrev pub stored_list : {A : Type 0} → Entries A → List (PageId × model.Entry)
stored_list entries = map page_and_entry entries.map.entries

-- what a restart leaves of a page's book
abbrev pub kept_book : {A : Type 0} → ℕ → Books A → PageId → PageId × book.Book
kept_book me books page = (page, book.without_volatile (books_of me books page))

-- the books, in the order of their first transactions
abbrev pub booked_list : {A : Type 0} → ℕ → Books A → List (PageId × book.Book)
booked_list me books = map (kept_book me books) (booked_of books)

abbrev pub purged_list : {A : Type 0} → Purged A → List ℕ
purged_list purged = keys_of purged.map.entries

-- the copies of the frames, and how many there may be
abbrev pub copies_held : Option Frames → List PageId
copies_held None = []
copies_held (Some frames) = frames.copies

abbrev pub limit_held : Option Frames → Option ℕ
limit_held None = None
limit_held (Some frames) = Some frames.limit

-- the segments of this list are purged, and no others
abbrev pub purged_in : List ℕ → ℕ → Bool
purged_in ids id = list_any (λ key. id == key) ids

-- what lists of what a site holds keep true: no attachment is of a purged segment, each copy is of a page that is stored, and stands once
pub record AreHeld (entries : List (PageId × model.Entry)) (attachments : List (Option Attachment)) (purged : List ℕ) (frames : Option Frames) : Type 0 where
  pub alive : (number : ℕ) (a : Attachment) → attachments_of attachments number ≡ Some a → purged_in purged a.id ≡ false
  pub stored : (page : PageId) → list_any (same_page page) (copies_held frames) ≡ true → list_any (same_page page) (keys_of entries) ≡ true
  pub apart : IsDistinct same_page (copies_held frames)
