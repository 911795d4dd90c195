-- What a manager's books keep true: the pages that are listed are those with a book, and those whose book runs are marked.
use Rattle.std.specs.Prelude.{◌≡◌, Bool, true, List, Option, Some, None, is_some}
use Rattle.std.specs.Map.{lookup}
use Rattle.shm_place.specs.declared.page_id.PageId.{PageId}
use Rattle.shm_place.specs.Page.{same_page}
use Rattle.shm_model.specs.Book as model
use Rattle.shm_manager.specs.Book.{book_of}
use Rattle.shm_manager.specs.declared.book.Book.{Book}
use Rattle.shm_parts.specs.Bookings.{is_listed, is_marked}
use Rattle.shm_parts.specs.declared.pages_with_books.Bookings.{Bookings}

abbrev pub book_or : {A : Type 0} → model.Book → Option (Book A) → model.Book
book_or rest None = rest
book_or rest (Some book) = book_of book

-- the page has a book whose transaction runs; an untouched book is idle, whoever manages it
abbrev pub runs_at : {A : Type 0} → List (PageId × Book A) → PageId → Bool
runs_at books page = is_some (book_or (model.untouched_book 0) (lookup (same_page page) books)).running

pub record IsBooked {A B : Type 0} (books : List (PageId × Book A)) (bookings : Bookings B) : Type 0 where
  pub listed : (page : PageId) → is_listed bookings page ≡ is_some (lookup (same_page page) books)
  pub running : (page : PageId) → runs_at books page ≡ true → is_marked bookings page ≡ true
