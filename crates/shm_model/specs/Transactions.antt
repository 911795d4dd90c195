-- What a page's manager knows in every run (Li and Hudak 1989, §3): numbers tell what is late, readers are known, copies are invalidated
-- before a write, and what may be read or installed is what was stored last. A site that purged the page's segment has no part in it any
-- more.
use Rattle.std.specs.Prelude.{◌≡◌, ◌≢◌, ℕ, ◌+◌, ◌*◌, ◌<◌, ◌≤◌, ◌⊎◌, false, List, Some, IsTrue, Contains, slice_get, slice_index}
use Rattle.shm_place.specs.declared.page_id.PageId.{PageId}
use Rattle.shm_place.specs.Limits.{page_bytes}
use Rattle.shm_place.specs.Page.{manager_of}
use Rattle.shm_model.specs.declared.request_kind.Kind.{Kind}
use Rattle.shm_model.specs.declared.request_kind.Kind.TheVariants.{Write}
use Rattle.shm_model.specs.Entry.{Note, Clear, Hand, Page, Handed, bytes, readable, seen}
use Rattle.shm_model.specs.Book.{Book, Running}
use Rattle.shm_model.specs.Message.{Envelope, Of}
use Rattle.shm_model.specs.Site.{Site}
use Rattle.shm_model.specs.Memory.{last_store}
use Rattle.shm_model.specs.World.{Opening, Run, World}

-- x is site s, and hasn't purged the page
pub record Stands (w : World) (page : PageId) (s : ℕ) (x : Site) : Type 0 where
  pub site : slice_get w.sites s ≡ Some x
  pub held : x.purged page.seg ≡ false

-- the number of a note to an entry; the other notes have none
abbrev pub entry_number : Note → ℕ
entry_number (Clear n) = n
entry_number (Hand n _ _) = n
entry_number (Page n _ _) = n
entry_number _ = 0

abbrev pub IsRunning : Book → Type 0
IsRunning book = (run : Running) × (book.running ≡ Some run)

abbrev pub IsRequester : Book → ℕ → Type 0
IsRequester book s = (run : Running) × (book.running ≡ Some run) × (run.requester ≡ s)

-- no site has met a number that its manager hasn't given; and a note above what its receiver has met is the running transaction's
pub record NumbersTell (w : World) : Type 0 where
  pub met : (page : PageId) (s : ℕ) (x m : Site) → Stands w page s x → Stands w page (manager_of w.count page) m → seen (x.entries page) ≤ (m.books page).number
  pub above : (page : PageId) (e : Envelope) (note : Note) (x m : Site) → Contains w.sent e → e.message ≡ Of page note
      → Stands w page e.to x → Stands w page (manager_of w.count page) m
      → seen (x.entries page) < entry_number note → (entry_number note ≡ (m.books page).number) × IsRunning (m.books page)

-- who may read is the owner, has a copy that the manager knows of, or is the requester that is being served
abbrev pub ReadersAreKnown : World → Type 0
ReadersAreKnown w = (page : PageId) (s : ℕ) (x m : Site) → Stands w page s x → Stands w page (manager_of w.count page) m → IsTrue (readable (x.entries page))
    → (s ≡ (m.books page).owner) ⊎ (IsTrue ((m.books page).copies s) ⊎ IsRequester (m.books page) s)

-- e tells that the page be given to q for writing, in the transaction that runs
pub record TellsToHand (w : World) (page : PageId) (book : Book) (q : ℕ) (e : Envelope) : Type 0 where
  pub sent : Contains w.sent e
  pub hand : e.message ≡ Of page (Hand book.number Write q)
  pub runs : IsRunning book

-- The owner gives a page up for writing only after all copies were invalidated: once it is told to, each site with a copy, but the one
-- that asked, has met the transaction, and nobody may read any more but that one and the owner.
pub record InvalidatedFirst (w : World) : Type 0 where
  pub told : (page : PageId) (q : ℕ) (e : Envelope) (m : Site) → Stands w page (manager_of w.count page) m → TellsToHand w page (m.books page) q e
      → (e.to ≡ (m.books page).owner) × IsRequester (m.books page) q
  pub met : (page : PageId) (q : ℕ) (e : Envelope) (s : ℕ) (x m : Site) → Stands w page s x → Stands w page (manager_of w.count page) m
      → TellsToHand w page (m.books page) q e
      → IsTrue ((m.books page).copies s) → s ≢ q → (m.books page).number ≤ seen (x.entries page)
  pub unreadable : (page : PageId) (q : ℕ) (e : Envelope) (s : ℕ) (x m : Site) → Stands w page s x → Stands w page (manager_of w.count page) m
      → TellsToHand w page (m.books page) q e
      → s ≢ (m.books page).owner → s ≢ q → readable (x.entries page) ≡ false

-- these bytes are, at each offset of the page, the last store or 0
abbrev pub IsLast : Opening → Run → PageId → List ℕ → Type 0
IsLast o r page b = (k : ℕ) → k < page_bytes → slice_index b k ≡ last_store o r.account page.seg (page.index * page_bytes + k)

-- what may be read was stored last, and so was what a Page that isn't late would install, and what is kept for a site that hasn't got the
-- page yet
pub record BytesAreLast (o : Opening) (r : Run) : Type 0 where
  pub readable_bytes : (page : PageId) (s : ℕ) (x : Site) → Stands r.world page s x → IsTrue (readable (x.entries page))
      → IsLast o r page (bytes (x.entries page))
  pub sent_bytes : (page : PageId) (e : Envelope) (n : ℕ) (kind : Kind) (b : List ℕ) (x : Site)
      → Contains r.world.sent e → e.message ≡ Of page (Page n kind b) → Stands r.world page e.to x
      → seen (x.entries page) < n → IsLast o r page b
  pub handed_bytes : (page : PageId) (s n to : ℕ) (b : List ℕ) (x y : Site)
      → Stands r.world page s x → Stands r.world page to y → x.entries page ≡ Handed n to b
      → seen (y.entries page) < n → IsLast o r page b
