-- A round that is made: this repository's own.
use Rattle.std.specs.Prelude.{◌≡◌, ℕ, ◌<◌, ◌⊎◌, false, List, ◌++◌, map}
use Rattle.std.specs.List.{range_with_len}
use Rattle.shm_model.specs.declared.event.Event.{Event}
use Rattle.shm_model.specs.declared.event.Event.TheVariants.{Deliver, Tick}
use Rattle.shm_model.specs.World as model
use Rattle.shm_progress.specs.Deliveries.{IsAtRest}
use Rattle.shm_progress.specs.OnTheWay.{NothingLost}
use Rattle.shm_progress.specs.Requests.{RequestsSettled}
use Rattle.shm_progress.specs.Rounds.{AllTick, FaultsServed, ManagersSettled, NonePending, NoneRestarted, Settled}
use Rattle.shm_progress.specs.Rest.Deliveries.{HandedSome}
use Rattle.shm_world.specs.World.{StandsFor, after}
use Rattle.shm_world.specs.declared.world.World.{World}

-- the first so many sites tick, in the order of their numbers
abbrev pub ticks : ℕ → List Event
ticks sites = map Tick (range_with_len 0 sites)

-- each site ticks, and then these envelopes are handed over
abbrev pub round_of : ℕ → List ℕ → List Event
round_of sites envelopes = ticks sites ++ map Deliver envelopes

-- the first so many sites ticked, but not all, and the world stands after that
pub record TickedSome {A : Type 0} (new : World A) (w : model.World) : Type 0 where
  pub sites : ℕ
  pub fewer : sites < w.count
  pub stands : StandsFor new (after w (ticks sites))

-- some sites ticked, or all did and some envelopes were handed over, and the world stands after that
abbrev pub StoppedInRound : {A : Type 0} → World A → model.World → ℕ → Type 0
StoppedInRound new w budget = TickedSome new w ⊎ HandedSome new (after w (ticks w.count)) budget

-- further events that lose nothing and restart no site, among which each site ticks and after which nothing is on its way
pub record IsRound (o : model.Opening) (before round : List Event) : Type 0 where
  pub kept : NothingLost round
  pub unrestarted : NoneRestarted round
  pub ticks : AllTick (model.sites_of o) round
  pub at_rest : IsAtRest (model.run o (before ++ round)).world

-- what such a round leaves, if no more envelopes were sent than a world counts: no call, no purge, no transaction and no Ask that waits; and
-- each request that is pending was turned away
pub record IsQuiet (o : model.Opening) (before round : List Event) : Type 0 where
  pub served : Settled (model.run o (before ++ round)).world
  pub ended : ManagersSettled (model.run o (before ++ round)).world
  pub requests : RequestsSettled o before round

-- the world stands after a round, each site's tick and then deliveries, which left it quiet
pub record Settles {A : Type 0} (new : World A) (o : model.Opening) (before : List Event) : Type 0 where
  pub envelopes : List ℕ
  pub is : IsRound o before (round_of (model.sites_of o) envelopes)
  pub stands : StandsFor new (model.run o (before ++ round_of (model.sites_of o) envelopes)).world
  pub quiet : model.is_full (model.run o (before ++ round_of (model.sites_of o) envelopes)).world ≡ false
      → IsQuiet o before (round_of (model.sites_of o) envelopes)

-- The world stands after a second round. If no more envelopes were sent than a world counts, no request is pending, and each that was before
-- the two rounds has gained its right in them, or its site has purged the segment.
pub record ServesAll {A : Type 0} (new : World A) (o : model.Opening) (before round : List Event) : Type 0 where
  pub envelopes : List ℕ
  pub stands : StandsFor new (model.run o ((before ++ round) ++ round_of (model.sites_of o) envelopes)).world
  pub none_pending : model.is_full (model.run o ((before ++ round) ++ round_of (model.sites_of o) envelopes)).world ≡ false
      → NonePending (model.run o ((before ++ round) ++ round_of (model.sites_of o) envelopes)).world
  pub faults : model.is_full (model.run o ((before ++ round) ++ round_of (model.sites_of o) envelopes)).world ≡ false
      → FaultsServed o before (round ++ round_of (model.sites_of o) envelopes)
