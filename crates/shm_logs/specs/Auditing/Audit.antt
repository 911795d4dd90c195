-- What an audit says that finds no cause.
use Rattle.std.specs.Prelude.{◌≡◌, List, ◌∷◌, ◌++◌, length, map, reverse}
use Rattle.std.specs.List.{All}
use Rattle.shm_model.specs.declared.event.Event.{Event}
use Rattle.shm_model.specs.Log.{Logged, LogsMatch}
use Rattle.shm_model.specs.Memory.{last_store, segment_of, Coherent, Legal, LoadsLast}
use Rattle.shm_model.specs.Merge.{done_in, events_in, part, IsMerged, RunsAs, SiteStep}
use Rattle.shm_model.specs.Receipt.{of_all, Receipt, ReceiptsHold}
use Rattle.shm_model.specs.World.{run, Done, Opening}
use Rattle.shm_logs.specs.Auditing.Cause.{AllSound}

-- what these steps asked and answered, the newest first
abbrev pub account_of : List SiteStep → List Done
account_of order = reverse (map done_in order)

-- A byte that the receipt tells of is that of the last store to its place before the receipt's step, or 0. The step is found in the order
-- by its site, and by how many of that site's steps stand before it.
pub record TellsLastStore (o : Opening) (order : List SiteStep) (r : Receipt) : Type 0 where
  pub before : List SiteStep
  pub step : SiteStep
  pub after : List SiteStep
  pub whole : order ≡ before ++ step ∷ after
  pub site : step.site ≡ r.site
  pub index : length (part r.site before) ≡ r.index
  pub last : LoadsLast r.asked r.answer (segment_of o (account_of before) r.site) (last_store o (account_of before))

-- Nothing is wrong with the logs, and they have an order, by stamp and site, which is a run of the world, as these events. In it the logs'
-- steps are made, each with its answer and what it sent; memory is one plain memory; and what callers were told holds.
pub record IsAudited (o : Opening) (logs : List (List Logged)) (callers : List (List Receipt)) (events : List Event) : Type 0 where
  pub sound : AllSound logs
  pub order : List SiteStep
  pub merged : IsMerged logs order
  pub named : events ≡ events_in order
  pub matched : LogsMatch logs
  pub receipts : ReceiptsHold logs callers
  pub runs : RunsAs o logs order (run o events)
  pub legal : Legal o (run o events).account
  pub coherent : Coherent (run o events).world
  pub last_stores : All (TellsLastStore o order) (of_all callers)
