-- Rounds: every site ticks, and what is on its way is handed over until nothing is. This repository's own.
use Rattle.std.specs.Prelude.{◌≡◌, ℕ, ◌<◌, ◌≤◌, ◌⊎◌, Bool, true, false, List, [], ◌∷◌, ◌++◌, Some, None, Contains, length, slice_get}
use Rattle.shm_place.specs.declared.page_id.PageId.{PageId}
use Rattle.shm_model.specs.declared.event.Event.{Event}
use Rattle.shm_model.specs.declared.event.Event.TheVariants.{Load, Store, Tick}
use Rattle.shm_model.specs.declared.request_kind.Kind.{Kind}
use Rattle.shm_model.specs.declared.request_kind.Kind.TheVariants.{Read, Write}
use Rattle.shm_model.specs.Entry.{Entry, readable, writable}
use Rattle.shm_model.specs.Site.{Pending, Site}
use Rattle.shm_model.specs.World.{IsOpening, Opening, World, is_full, run, sites_of}
use Rattle.shm_progress.specs.Bounds.{asked_again, events_to_serve, round_events, round_sent, sent_to_serve}
use Rattle.shm_progress.specs.Deliveries.{IsAtRest}
use Rattle.shm_progress.specs.OnTheWay.{NothingLost}
use Rattle.shm_progress.specs.Transactions.{NotRestarted}

-- each site ticks among these events
abbrev pub AllTick : ℕ → List Event → Type 0
AllTick sites events = (site : ℕ) → site < sites → Contains events (Tick site)

-- no site waits for a reply, and no home for the answer to a purge
pub record Settled (w : World) : Type 0 where
  pub answered : (site : ℕ) (x : Site) → slice_get w.sites site ≡ Some x → x.outstanding ≡ None
  pub purged : (home id site : ℕ) (x : Site) → slice_get w.sites home ≡ Some x → x.missing id site ≡ false

-- none of these events restarts a site
abbrev pub NoneRestarted : List Event → Type 0
NoneRestarted events = (site : ℕ) → NotRestarted site events

-- a load or a store
abbrev pub is_access : Event → Bool
is_access (Load _ _ _) = true
is_access (Store _ _ _ _) = true
is_access _ = false

-- none of these events is a load or a store
abbrev pub NoneAccesses : List Event → Type 0
NoneAccesses [] = Unit {0}
NoneAccesses (e ∷ es) = (is_access e ≡ false) × NoneAccesses es

-- no request is pending at any site
abbrev pub NonePending : World → Type 0
NonePending w = (site : ℕ) (x : Site) → slice_get w.sites site ≡ Some x → x.pending ≡ []

-- to read, or to write
abbrev pub has_right : Kind → Entry → Bool
has_right Read e = readable e
has_right Write e = writable e

-- after some front of the later events the site has the right that the request asks for
pub record GainsRight (o : Opening) (before since : List Event) (from : ℕ) (p : Pending) : Type 0 where
  pub front : List Event
  pub back : List Event
  pub is : since ≡ front ++ back
  pub site : Site
  pub found : slice_get (run o (before ++ front)).world.sites from ≡ Some site
  pub right : has_right p.kind (site.entries p.page) ≡ true

-- the site has purged the segment
abbrev pub HasPurged : World → ℕ → ℕ → Type 0
HasPurged w site id = (x : Site) × (slice_get w.sites site ≡ Some x) × (x.purged id ≡ true)

-- each request that was pending before gains its right in the later events, or its site has purged the segment after them
abbrev pub FaultsServed : Opening → List Event → List Event → Type 0
FaultsServed o before since = (from : ℕ) (x : Site) (p : Pending) → slice_get (run o before).world.sites from ≡ Some x → Contains x.pending p
    → GainsRight o before since from p ⊎ HasPurged (run o (before ++ since)).world from p.page.seg

-- no transaction runs at any manager, and no Ask waits there
pub record ManagersSettled (w : World) : Type 0 where
  pub ended : (site : ℕ) (x : Site) (page : PageId) → slice_get w.sites site ≡ Some x → (x.books page).running ≡ None
  pub served : (site : ℕ) (x : Site) (page : PageId) → slice_get w.sites site ≡ Some x → (x.books page).waiting ≡ []

-- Further events that lose nothing, restart no site and have no load and no store, among which each site ticks and after which nothing is on
-- its way. They are at most so many, and so are the envelopes that were sent after them.
pub record Round (o : Opening) (events : List Event) : Type 0 where
  pub later : List Event
  pub kept : NothingLost later
  pub unrestarted : NoneRestarted later
  pub calm : NoneAccesses later
  pub ticks : AllTick (sites_of o) later
  pub at_rest : IsAtRest (run o (events ++ later)).world
  pub few : IsOpening o → length later ≤ round_events (sites_of o) (length (run o events).world.sent) (asked_again (run o events).world)
  pub few_sent : IsOpening o → length (run o (events ++ later)).world.sent ≤ round_sent (length (run o events).world.sent) (asked_again (run o events).world)

-- Further events that lose nothing, restart no site and have no load and no store. They are at most so many, and so are the envelopes that were
-- sent after them. If no more were sent than a world counts, no request is pending after them, and each that was pending before gains its right
-- in them, or its site has purged the segment.
pub record ServedLater (o : Opening) (events : List Event) : Type 0 where
  pub later : List Event
  pub kept : NothingLost later
  pub unrestarted : NoneRestarted later
  pub calm : NoneAccesses later
  pub few : length later ≤ events_to_serve (run o events).world
  pub few_sent : length (run o (events ++ later)).world.sent ≤ sent_to_serve (run o events).world
  pub none_pending : is_full (run o (events ++ later)).world ≡ false → NonePending (run o (events ++ later)).world
  pub faults : is_full (run o (events ++ later)).world ≡ false → FaultsServed o events later

-- The same where a world counts that many envelopes: it isn't full after them, so that all is served.
pub record Served (o : Opening) (events : List Event) : Type 0 where
  pub later : List Event
  pub kept : NothingLost later
  pub unrestarted : NoneRestarted later
  pub calm : NoneAccesses later
  pub few : length later ≤ events_to_serve (run o events).world
  pub free : is_full (run o (events ++ later)).world ≡ false
  pub none_pending : NonePending (run o (events ++ later)).world
  pub faults : FaultsServed o events later
