-- The site that a state makes is what a restart leaves of the site that has the state.
use Rattle.std.proofs.Common.{◌≡◌, ℕ, Bool, List, [], if◌then◌else◌}
use Rattle.std.specs.Map.{keys_of}
use Rattle.shm_place.specs.declared.page_id.PageId.{PageId}
use Rattle.shm_model.specs.Book as book
use Rattle.shm_model.specs.Entry as entry
use Rattle.shm_model.specs.Site as model
use Rattle.shm_model.specs.Step.{restart}
use Rattle.shm_parts.specs.Books.{booked_of, books_of}
use Rattle.shm_parts.specs.Entries.{entries_of}
use Rattle.shm_parts.specs.Listed.{booked_list, filled, purged_in, purged_list, stored_list}
use Rattle.shm_parts.specs.Purged.{purged_of}
use Rattle.shm_site.specs.Site.{site_of}
use Rattle.shm_site.specs.State.{site_from, state_of}
use Rattle.shm_site.specs.declared.site.Site.{Site}

abbrev with_lists : {A : Type 0} → Site A → (PageId → entry.Entry) → (ℕ → Bool) → (PageId → book.Book) → List PageId → model.Site
with_lists site entries purged books booked = record (site_of site) {
  entries = λ page. if purged page.seg then entry.Nil 0 else entries page;
  purged = purged;
  books = books;
  booked = booked;
  pending = [];
}

pub same_state : {A : Type 0} (site : Site A)
    → filled (model.untouched site.sites site.me) (stored_list site.holdings.entries) ≡ entries_of (model.untouched site.sites site.me) site.holdings.entries
    → purged_in (purged_list site.holdings.purged) ≡ purged_of site.holdings.purged
    → filled (λ _. book.untouched_book site.me) (booked_list site.me site.books) ≡ (λ page. book.without_volatile (books_of site.me site.books page))
    → keys_of (booked_list site.me site.books) ≡ booked_of site.books
    → site_from site.sites site.me (state_of site) ≡ (restart (site_of site)).site
same_state site entries purged books booked = λ i. with_lists site (entries i) (purged i) (books i) (booked i)
