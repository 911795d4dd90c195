-- What a site shows of itself.
use Rattle.std.specs.Prelude.{◌≡◌}
use Rattle.shm_model.specs.Book.{Book}
use Rattle.shm_manager.specs.Book.{kind_and_requester}
use Rattle.shm_place.specs.SiteSet.{has}
use Rattle.shm_site.specs.declared.book_view.BookView.{BookView}

-- the view shows the book
pub record Shows (view : BookView) (book : Book) : Type 0 where
  pub owner : view.owner ≡ book.owner
  pub copies : has view.copies ≡ book.copies
  pub number : view.number ≡ book.number
  pub running : view.running ≡ kind_and_requester book.running
