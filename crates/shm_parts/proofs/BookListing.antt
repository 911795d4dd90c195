-- The books as a list: what a restart leaves of each.
use Rattle.std.proofs.Common.{◌≡◌, ◌∙◌, ℕ, Bool, true, false, List, [], ◌∷◌, map, Option, Some, None, is_some, if◌then◌else◌, refl, ap, true≢false}
use Rattle.std.proofs.lemmas.Bool.{false≢true}
use Rattle.std.specs.List.{AllByRecursion, list_any}
use Rattle.std.specs.Map.{keys_of, lookup}
use Rattle.shm_place.specs.declared.page_id.PageId.{PageId}
use Rattle.shm_place.specs.Page.{same_page}
use Rattle.shm_manager.specs.declared.book.Book.{Book}
use Rattle.shm_model.specs.Book as model
use Rattle.shm_parts.specs.Books.{book_or, booked_of, books_of}
use Rattle.shm_parts.specs.Listed.{booked_list, filled}
use Rattle.shm_parts.specs.declared.books.Books.{Books}
use Rattle.shm_parts.proofs.BookedLemmas.{any_booked}
use Rattle.shm_parts.proofs.ListedLemmas.{filled-at}

module _ {X : Type 0} (g : PageId → X) where
  pub keys-made : (pages : List PageId) → keys_of (map (λ (p : PageId). (p, g p)) pages) ≡ pages
  keys-made [] = refl
  keys-made (p ∷ ps) = ap (λ (l : List PageId). p ∷ l) (keys-made ps)

  each_made : (pages : List PageId) → AllByRecursion (λ (e : PageId × X). Some (g e.0) ≡ Some e.1) (map (λ (p : PageId). (p, g p)) pages)
  each_made [] = record {}
  each_made (p ∷ ps) = (refl, each_made ps)

  -- each of these pages has its value, and all others have what they had
  pub filled-made : (f : PageId → X) (pages : List PageId) (page : PageId) → filled f (map (λ (p : PageId). (p, g p)) pages) page ≡ (if list_any (same_page page) pages then g page else f page)
  filled-made f pages page =
      filled-at f (λ p. Some (g p)) (map (λ (p : PageId). (p, g p)) pages) page (each_made pages)
      ∙ ap (λ (l : List PageId). if list_any (same_page page) l then g page else f page) (keys-made pages)

pub keys-booked : {A : Type 0} (me : ℕ) (books : Books A) → keys_of (booked_list me books) ≡ booked_of books
keys-booked me books = keys-made (λ (p : PageId). model.without_volatile (books_of me books p)) (booked_of books)

-- a page without a book has the untouched one
pub kept_filled : {A : Type 0} (me : ℕ) (books : Books A) (page : PageId) → filled (λ _. model.untouched_book me) (booked_list me books) page ≡ model.without_volatile (books_of me books page)
kept_filled {A = A} me books page =
    filled-made (λ (p : PageId). model.without_volatile (books_of me books p)) (λ _. model.untouched_book me) (booked_of books) page
    ∙ by (lookup (same_page page) books.map.entries) (list_any (same_page page) (booked_of books)) (any_booked books.map.entries books.bookings page books.booked)
  where
    by : (o : Option (Book A)) (a : Bool) → a ≡ is_some o → (if a then model.without_volatile (book_or (model.untouched_book me) o) else model.untouched_book me) ≡ model.without_volatile (book_or (model.untouched_book me) o)
    by None true is = absurd (true≢false is)
    by None false is = refl
    by (Some b) true is = refl
    by (Some b) false is = absurd (false≢true is)
