-- A request goes on until its page's manager takes it up: what can't be served yet waits there (Li and Hudak 1989, §3.2). A network that
-- drops every message, or a manager that forgets who waits, breaks it: a pending request would be nowhere.
use Rattle.std.specs.Prelude.{◌≡◌, ℕ, ◌<◌, ◌≤◌, true, ◌⊎◌, List, [], ◌∷◌, ◌++◌, Some, None, Contains, length, slice_get}
use Rattle.shm_place.specs.declared.page_id.PageId.{PageId}
use Rattle.shm_place.specs.Page.{manager_of}
use Rattle.shm_model.specs.declared.event.Event.{Event}
use Rattle.shm_model.specs.Entry.{Ask, seen}
use Rattle.shm_model.specs.Book.{Book, is_waiting, max_waiting}
use Rattle.shm_model.specs.Basics.{greatest}
use Rattle.shm_model.specs.Message.{Of}
use Rattle.shm_model.specs.Site.{Pending, Site}
use Rattle.shm_model.specs.World.{Opening, World, live, run, sites_of}
use Rattle.shm_progress.specs.Transactions.{IsPurgedSomewhere, NoteGoes}

-- the site's request waits in the book, or its transaction was started
abbrev pub IsTakenUp : Book → ℕ → ℕ → Type 0
IsTakenUp b site request = (is_waiting site request b.waiting ≡ true) ⊎ (request ≤ b.served site)

-- the book takes up no request: as many wait as may, or no number is left for a transaction
abbrev pub TakesNone : Book → Type 0
TakesNone b = (max_waiting ≤ length b.waiting) ⊎ (b.number ≡ greatest)

-- The request was turned away in the later events: its Ask was on its way to the manager when as many waited in the manager's book of the page
-- as may, and the next event took it from there.
pub record TurnedAway (o : Opening) (before since : List Event) (manager from : ℕ) (p : Pending) : Type 0 where
  pub front : List Event
  pub event : Event
  pub back : List Event
  pub is : since ≡ front ++ (event ∷ back)
  pub site : Site
  pub found : slice_get (run o (before ++ front)).world.sites manager ≡ Some site
  pub full : max_waiting ≤ length (site.books p.page).waiting
  pub number : ℕ
  pub asked : live (run o (before ++ front)).world number ≡ Some (record { from = from; to = manager; message = Of p.page (Ask p.request p.kind) })
  pub gone : live (run o (before ++ (front ++ (event ∷ [])))).world number ≡ None

-- at some time in the later events no number was left for a transaction of the page
pub record NumbersUsedUp (o : Opening) (before since : List Event) (manager : ℕ) (page : PageId) : Type 0 where
  pub front : List Event
  pub back : List Event
  pub is : since ≡ front ++ back
  pub site : Site
  pub found : slice_get (run o (before ++ front)).world.sites manager ≡ Some site
  pub last : (site.books page).number ≡ greatest

-- the manager didn't take the request up at some time in the later events
abbrev pub TookNone : Opening → List Event → List Event → ℕ → ℕ → Pending → Type 0
TookNone o before since manager from p = TurnedAway o before since manager from p ⊎ NumbersUsedUp o before since manager p.page

abbrev pub IsTakenUpAt : World → ℕ → ℕ → Pending → Type 0
IsTakenUpAt w manager from p = (x : Site) × (slice_get w.sites manager ≡ Some x) × IsTakenUp (x.books p.page) from p.request

-- its Ask is on its way, or it was taken up, or the manager didn't take it up, or the page's segment is being purged
abbrev pub RequestGoesOn : Opening → List Event → List Event → ℕ → ℕ → Pending → Type 0
RequestGoesOn o before since manager from p =
    NoteGoes (run o (before ++ since)).world p.page from manager (Ask p.request p.kind)
    ⊎ (IsTakenUpAt (run o (before ++ since)).world manager from p
    ⊎ (TookNone o before since manager from p ⊎ IsPurgedSomewhere (run o (before ++ since)).world p.page.seg))

-- each request that the site has pending at this manager goes on
abbrev pub RequestsGoOn : Opening → List Event → List Event → ℕ → ℕ → Type 0
RequestsGoOn o before since manager from = (x : Site) (p : Pending) → slice_get (run o (before ++ since)).world.sites from ≡ Some x → Contains x.pending p
    → manager_of (sites_of o) p.page ≡ manager → RequestGoesOn o before since manager from p

-- the page's manager has started the request's transaction
abbrev pub IsStarted : World → ℕ → Pending → Type 0
IsStarted w from p = (x : Site) × (slice_get w.sites (manager_of w.count p.page) ≡ Some x) × (p.request ≤ (x.books p.page).served from)

-- the request's transaction runs, and its site has met none of the page as new
pub record IsServedNow (w : World) (from : ℕ) (p : Pending) : Type 0 where
  pub manager : Site
  pub found : slice_get w.sites (manager_of w.count p.page) ≡ Some manager
  pub runs : (manager.books p.page).running ≡ Some (record { kind = p.kind; requester = from })
  pub requester : Site
  pub asked : slice_get w.sites from ≡ Some requester
  pub unmet : seen (requester.entries p.page) < (manager.books p.page).number

-- each request that is pending and was started is being served
abbrev pub StartedAreServed : World → Type 0
StartedAreServed w = (from : ℕ) (x : Site) (p : Pending) → slice_get w.sites from ≡ Some x → Contains x.pending p → IsStarted w from p → IsServedNow w from p

-- each request that is still pending was turned away: its Ask came while sixteen waited for the page at its manager
abbrev pub RequestsSettled : Opening → List Event → List Event → Type 0
RequestsSettled o before since = (from : ℕ) (x : Site) (p : Pending) → slice_get (run o (before ++ since)).world.sites from ≡ Some x → Contains x.pending p
    → TurnedAway o before since (manager_of (sites_of o) p.page) from p
