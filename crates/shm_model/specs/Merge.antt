-- All steps of all logs in one order, by stamp and site, and that order as a run of the world.
use Rattle.std.specs.Prelude.{◌≡◌, ℕ, ◌<◌, ◌+◌, ◌-◌, ◌⊎◌, List, [], ◌∷◌, Some, ◌==◌, if◌then◌else◌, length, map, reverse, slice_get}
use Rattle.std.specs.List.{AllPairs, flat_map}
use Rattle.shm_model.specs.declared.event.Event.{Event}
use Rattle.shm_model.specs.declared.event.Event.TheVariants.{Load as LoadEvent, Store as StoreEvent, Begin as BeginEvent, Tick as TickEvent, Restart as RestartEvent, Repeat}
use Rattle.shm_model.specs.Message.{Input, Load, Store, Begin, Deliver, Tick, Restart}
use Rattle.shm_model.specs.World.{Done, Opening, Run, opened_site, sites_of}
use Rattle.shm_model.specs.Log.{Logged, Stamp, inputs_of, log_of, moved_by}

-- a step, and whose it is
pub record SiteStep : Type 0 where
  pub site : ℕ
  pub logged : Logged

abbrev pub IsBefore : SiteStep → SiteStep → Type 0
IsBefore p q = (p.logged.stamp < q.logged.stamp) ⊎ ((p.logged.stamp ≡ q.logged.stamp) × (p.site < q.site))

-- a site's part of an order
abbrev pub part : ℕ → List SiteStep → List Logged
part s [] = []
part s (p ∷ ps) = if p.site == s then p.logged ∷ part s ps else part s ps

-- the one order: each site's part of it is the site's log, and it rises strictly by stamp and site
pub record IsMerged (logs : List (List Logged)) (order : List SiteStep) : Type 0 where
  pub parts : (s : ℕ) → part s order ≡ log_of logs s
  pub rises : AllPairs IsBefore order

-- how many envelopes are sent, in this order, before the site's step of this index
abbrev pub sent_before : List SiteStep → ℕ → ℕ → ℕ
sent_before [] s index = 0
sent_before (p ∷ ps) s index =
    if p.site == s then (if index == 0 then 0 else length p.logged.sent + sent_before ps s (index - 1))
    else length p.logged.sent + sent_before ps s index

abbrev pub event_of : List SiteStep → ℕ → Stamp → Input → Event
event_of order s source (Load at offset) = LoadEvent s at offset
event_of order s source (Store at offset byte) = StoreEvent s at offset byte
event_of order s source (Begin request) = BeginEvent s request
event_of order s source (Deliver e) = Repeat (sent_before order e.from source.index + source.place)
event_of order s source Tick = TickEvent s
event_of order s source Restart = RestartEvent s

-- the steps as events: a delivery repeats its envelope, by the number that it has in this order
abbrev pub events_in : List SiteStep → List Event
events_in order = map (λ p. event_of order p.site p.logged.source p.logged.input) order

abbrev pub done_in : SiteStep → Done
done_in p = record { site = p.site; input = Some p.logged.input; answer = p.logged.answer }

-- the run is just these steps in this order, with what they answered and sent, and leaves each site where its log does
pub record RunsAs (o : Opening) (logs : List (List Logged)) (order : List SiteStep) (r : Run) : Type 0 where
  pub account : r.account ≡ reverse (map done_in order)
  pub sent : r.world.sent ≡ flat_map (λ p. p.logged.sent) order
  pub sites : (s : ℕ) → s < sites_of o → slice_get r.world.sites s ≡ Some (moved_by (sites_of o) s (opened_site o s) (inputs_of (log_of logs s)))
