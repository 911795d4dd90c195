-- The parts of a site beside its holdings.
use Rattle.std.proofs.Common.{◌≡◌, ℕ, List, Option, ◌∙◌, ap}
use Rattle.shm_place.specs.declared.page_id.PageId.{PageId}
use Rattle.shm_model.specs.Book.{Book}
use Rattle.shm_model.specs.Calls.{Kept}
use Rattle.shm_model.specs.Site.{Pending, Site}
use Rattle.shm_keys.specs.Table.{Table, missing_of}
use Rattle.shm_attach.specs.CallBook.{Calls}

pub record Parts : Type 0 where
  pub books : PageId → Book
  pub booked : List PageId
  pub requests : ℕ
  pub pending : List Pending
  pub calls : Calls
  pub table : Table
  pub kept : ℕ → Option Kept

abbrev pub with_parts : Parts → Site → Site
with_parts parts site = record site {
  books = parts.books;
  booked = parts.booked;
  requests = parts.requests;
  pending = parts.pending;
  calls = parts.calls.begun;
  outstanding = parts.calls.outstanding;
  table = parts.table.segments;
  missing = missing_of parts.table;
  kept = parts.kept;
}

pub same_parts : (x y : Parts) (site : Site) → x.books ≡ y.books → x.booked ≡ y.booked → x.requests ≡ y.requests → x.pending ≡ y.pending → x.calls ≡ y.calls → x.table ≡ y.table → x.kept ≡ y.kept → with_parts x site ≡ with_parts y site
same_parts x y site books booked requests pending calls table kept =
    ap (λ (v : PageId → Book). with_parts (record x { books = v }) site) books
    ∙ ap (λ (v : List PageId). with_parts (record x { books = y.books; booked = v }) site) booked
    ∙ ap (λ (v : ℕ). with_parts (record x { books = y.books; booked = y.booked; requests = v }) site) requests
    ∙ ap (λ (v : List Pending). with_parts (record x { books = y.books; booked = y.booked; requests = y.requests; pending = v }) site) pending
    ∙ ap (λ (v : Calls). with_parts (record y { calls = v; table = x.table; kept = x.kept }) site) calls
    ∙ ap (λ (v : Table). with_parts (record y { table = v; kept = x.kept }) site) table
    ∙ ap (λ (v : ℕ → Option Kept). with_parts (record y { kept = v }) site) kept
