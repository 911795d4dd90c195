-- The books of the pages that a site manages, as a function of the page, and the pages in the order of their first transactions.
use Rattle.std.specs.Prelude.{◌≡◌, ◌≤◌, ℕ, List, [], ◌∷◌, ◌++◌, Option, Some, None, length, map}
use Rattle.std.specs.List.{AllByRecursion}
use Rattle.std.specs.Map.{lookup}
use Rattle.shm_place.specs.declared.page_id.PageId.{PageId}
use Rattle.shm_place.specs.Page.{same_page}
use Rattle.shm_model.specs.declared.answer.Answer.TheVariants.{Took, Refused}
use Rattle.shm_model.specs.Site.{Step, dropped, still, Site}
use Rattle.shm_model.specs.Book as model
use Rattle.shm_model.specs.Refusal.{numbers_used_up}
use Rattle.shm_model.specs.Transfer.{order_envelope}
use Rattle.shm_manager.specs.Book.{book_of}
use Rattle.shm_manager.specs.Orders.{orders_of}
use Rattle.shm_manager.specs.declared.book.Book.{Book}
pub use Rattle.shm_parts.specs.Booked.{book_or}
use Rattle.shm_parts.specs.Bookings.{listed_after, listed_of}
use Rattle.shm_parts.specs.declared.books.Books.{Books}
use Rattle.shm_parts.specs.declared.book_outcome.Outcome.{Outcome}
use Rattle.shm_parts.specs.declared.book_outcome.Outcome.TheVariants as outcome

-- the entries of a map of books, as the definitions see the books
abbrev pub viewed : {A : Type 0} → List (PageId × Book A) → List (PageId × model.Book)
viewed entries = map (λ e. (e.0, book_of e.1)) entries

-- a page without a book has the untouched one
abbrev pub books_of : {A : Type 0} → ℕ → Books A → PageId → model.Book
books_of me books page = book_or (model.untouched_book me) (lookup (same_page page) books.map.entries)

abbrev pub booked_of : {A : Type 0} → Books A → List PageId
booked_of books = listed_of books.bookings

-- the pages behind a place in that order
abbrev pub booked_after : {A : Type 0} → Option ℕ → Books A → List PageId
booked_after last books = listed_after last books.bookings

-- no transaction of these pages runs
abbrev pub AllIdle : {A : Type 0} → Books A → List PageId → Type 0
AllIdle books pages = AllByRecursion (λ page. (me : ℕ) → (books_of me books page).running ≡ None) pages

-- the next page behind `last`, at this place, of those that may have a running transaction
abbrev pub IsNextRunning : {A : Type 0} → Option ℕ → Books A → ℕ → PageId → Type 0
IsNextRunning last books place page =
    (between : List PageId) × (booked_after last books ≡ between ++ page ∷ booked_after (Some place) books) × AllIdle books between

-- the site, with these books
abbrev pub with_books : {A : Type 0} → ℕ → Books A → Site → Site
with_books me books site = record site { books = books_of me books; booked = booked_of books }

-- what a row of a book's table means to the site
abbrev pub booked_step : ℕ → PageId → Outcome → Site → Step
booked_step me page outcome.Ignored site = dropped site
booked_step me page outcome.UsedUp site = still (Refused numbers_used_up) site
booked_step me page (outcome.Taken number orders) site = record { site = site; answer = Took; sent = map (order_envelope me page number) (orders_of orders) }

-- what goes out
abbrev pub orders_in : Outcome → List model.Order
orders_in (outcome.Taken number orders) = orders_of orders
orders_in _ = []

-- there is room for all that goes out
abbrev pub HasRoom : Outcome → ℕ → Type 0
HasRoom outcome room = length (orders_in outcome) ≤ room

-- the row that an outcome tells of, with the book after it
abbrev pub given_by : Outcome → model.Book → model.Outcome
given_by outcome.Ignored after = model.Ignored
given_by outcome.UsedUp after = model.UsedUp
given_by (outcome.Taken number orders) after = model.Taken after (orders_of orders)

-- a row that was taken answers with the number of the book after it; any other leaves the book
abbrev pub IsSettled : Outcome → model.Book → model.Book → Type 0
IsSettled outcome.Ignored old new = new ≡ old
IsSettled outcome.UsedUp old new = new ≡ old
IsSettled (outcome.Taken number orders) old new = number ≡ new.number
