-- A transaction goes on until its requester's confirmation is heard (Li and Hudak 1989, §3.2). A network that drops every message, or a
-- manager that asks for nothing, breaks it: a transaction that runs would have nothing on its way.
use Rattle.std.specs.Prelude.{◌≡◌, ◌≢◌, ℕ, true, ◌⊎◌, List, [], ◌∷◌, Some, Contains, slice_get}
use Rattle.shm_place.specs.declared.page_id.PageId.{PageId}
use Rattle.shm_model.specs.declared.event.Event.{Event}
use Rattle.shm_model.specs.declared.event.Event.TheVariants.{Restart}
use Rattle.shm_model.specs.Entry.{Note, Clear, Cleared, Hand, Page, Confirm}
use Rattle.shm_model.specs.Book.{Book, Running, awaited}
use Rattle.shm_model.specs.Message.{Of}
use Rattle.shm_model.specs.Site.{Site}
use Rattle.shm_model.specs.World.{World}
use Rattle.shm_progress.specs.OnTheWay.{IsOnItsWay}

-- this note of the page is on its way
abbrev pub NoteGoes : World → PageId → ℕ → ℕ → Note → Type 0
NoteGoes w page from to note = IsOnItsWay w (record { from = from; to = to; message = Of page note })

-- the site is being told to give up its copy, or its answer is on its way
abbrev pub IsBeingCleared : World → ℕ → PageId → ℕ → ℕ → Type 0
IsBeingCleared w manager page number site = NoteGoes w page manager site (Clear number) ⊎ NoteGoes w page site manager (Cleared number)

-- the owner is being told to hand the page, or the page is on its way to the requester, or the requester's confirmation is
abbrev pub IsBeingHanded : World → ℕ → PageId → Book → Running → Type 0
IsBeingHanded w manager page b run =
    NoteGoes w page manager b.owner (Hand b.number run.kind run.requester)
    ⊎ (((bytes : List ℕ) × NoteGoes w page b.owner run.requester (Page b.number run.kind bytes)) ⊎ NoteGoes w page run.requester manager (Confirm b.number))

-- each site that the transaction waits for is being cleared, and where it waits for none the page is being handed
pub record TransactionGoesOn (w : World) (manager : ℕ) (page : PageId) (b : Book) (run : Running) : Type 0 where
  pub clearing : (site : ℕ) → Contains (awaited b run) site → IsBeingCleared w manager page b.number site
  pub handing : awaited b run ≡ [] → IsBeingHanded w manager page b run

-- a site has purged the segment, which is destroyed then
abbrev pub IsPurgedSomewhere : World → ℕ → Type 0
IsPurgedSomewhere w id = (site : ℕ) × (x : Site) × (slice_get w.sites site ≡ Some x) × (x.purged id ≡ true)

-- each transaction that runs at this manager goes on, unless its page is of a segment that is being purged
abbrev pub TransactionsGoOn : World → ℕ → Type 0
TransactionsGoOn w manager = (x : Site) (page : PageId) (run : Running) → slice_get w.sites manager ≡ Some x → (x.books page).running ≡ Some run
    → TransactionGoesOn w manager page (x.books page) run ⊎ IsPurgedSomewhere w page.seg

-- none of these events restarts the site
abbrev pub NotRestarted : ℕ → List Event → Type 0
NotRestarted site [] = Unit {0}
NotRestarted site (e ∷ es) = (e ≢ Restart site) × NotRestarted site es
