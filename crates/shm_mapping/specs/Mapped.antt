-- A page that is mapped: the machine's processors load from it and store to it in the machine's own memory, with no step of the site
-- (mmap(2)). A page that isn't mapped, or is stored to while it is mapped to read, faults, and the machine's software asks the site
-- (userfaultfd(2); Li and Hudak 1989, §3: the memory mapping manager sets the protection of each page by the site's access to it).
use Rattle.std.specs.Prelude.{ℕ, Bool, List, ◌∷◌, Option, None, Some, not, if◌then◌else◌, filter}
use Rattle.std.specs.List.{find, list_all}
use Rattle.shm_place.specs.declared.page_id.PageId.{PageId}
use Rattle.shm_place.specs.Page.{same_page}
use Rattle.shm_model.specs.declared.request_kind.Kind.{Kind}
use Rattle.shm_model.specs.declared.request_kind.Kind.TheVariants.{Read, Write}
use Rattle.shm_model.specs.Entry.{Entry, OwnWrite, readable, writable}
use Rattle.shm_model.specs.Book.{is_write}
use Rattle.shm_model.specs.Site.{Site}

-- a page that is mapped to read, or to read and write, and the bytes that the machine's memory has of it
pub record Mapped : Type 0 where
  pub page : PageId
  pub kind : Kind
  pub memory : List ℕ

abbrev pub mapped_at : PageId → List Mapped → Option Mapped
mapped_at page mapped = find (λ m. same_page page m.page) mapped

abbrev pub unmapped : PageId → List Mapped → List Mapped
unmapped page mapped = filter (λ m. not (same_page page m.page)) mapped

-- a page is mapped once
abbrev pub remapped : Mapped → List Mapped → List Mapped
remapped m mapped = m ∷ unmapped m.page mapped

-- the site's access to the page is as great as what is mapped
abbrev pub allows : Kind → Entry → Bool
allows Read e = readable e
allows Write e = writable e

abbrev pub allows_all : List Mapped → Site → Bool
allows_all mapped site = list_all (λ m. allows m.kind (site.entries m.page)) mapped

-- an entry with the bytes of the machine's memory, where the page is mapped to write: those of the site are older
abbrev pub with_bytes : List ℕ → Entry → Entry
with_bytes memory (OwnWrite n _) = OwnWrite n memory
with_bytes memory e = e

abbrev pub with_memory : Option Mapped → Entry → Entry
with_memory None e = e
with_memory (Some m) e = if is_write m.kind then with_bytes m.memory e else e

-- the site and the memory of its machine as one
abbrev pub joined : List Mapped → Site → Site
joined mapped site = record site { entries = λ page. with_memory (mapped_at page mapped) (site.entries page) }
