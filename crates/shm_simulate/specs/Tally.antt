-- What came of many runs of a workload.
use Rattle.std.specs.Prelude.{◌≡◌, ℕ, List, length, map}
use Rattle.std.specs.List.{All}
use Rattle.shm_model.specs.declared.event.Event.{Event}
use Rattle.shm_model.specs.World.{Done, Opening, Preset, run}
use Rattle.shm_lines.specs.declared.workload_access.WorkloadAccess.{WorkloadAccess}
use Rattle.shm_simulate.specs.Lines.{InOrder, lines_after, outcome_of}
use Rattle.shm_simulate.specs.Messages.{messages_after}
use Rattle.shm_simulate.specs.Measures.{measures_of, value_in}
use Rattle.shm_simulate.specs.Outcomes.{Tallied}
use Rattle.shm_simulate.specs.Spreads.{AreSpreads}
use Rattle.shm_simulate.specs.Tries.{Allowed, Ended}
use Rattle.shm_simulate.specs.declared.gave.Gave.{Gave}
use Rattle.shm_simulate.specs.declared.measure.Measure.{Measure}
use Rattle.shm_simulate.specs.declared.odds.Odds.{Odds}
use Rattle.shm_simulate.specs.declared.outcome.Outcome.{Outcome}
use Rattle.shm_simulate.specs.declared.spread.Spread.{Spread}
use Rattle.shm_simulate.specs.declared.simulate_runs.Tally.{Tally}

-- the account of the run of these events
abbrev pub account_of : Opening → List Event → List Done
account_of o events = (run o events).account

-- A run of the workload: each site makes the accesses of its lines alone, in their order, each again and again until it is done; only what
-- the odds allow goes wrong; and it goes on until every line is done, or until it is given up.
pub record IsRunOf (o : Opening) (accesses : List WorkloadAccess) (odds : Odds) (events : List Event) : Type 0 where
  pub order : InOrder accesses (account_of o events)
  pub allowed : All (Allowed odds) events
  pub ended : Ended (lines_after accesses (account_of o events)) events

-- what the lines gave in the run of these events
abbrev pub given_in : Opening → List WorkloadAccess → List Event → List Gave
given_in o accesses events = outcome_of accesses (account_of o events)

-- the value of a measure in the run of these events
abbrev pub value_of : Opening → List WorkloadAccess → Measure → List Event → ℕ
value_of o accesses measure events = value_in measure (lines_after accesses (account_of o events)) (messages_after (account_of o events)) events

-- These are the outcomes and the spreads of the runs of these events.
pub record Tells (o : Opening) (accesses : List WorkloadAccess) (odds : Odds) (schedules : List (List Event)) (outcomes : List Outcome)
    (spreads : List Spread) : Type 0 where
  pub runs : All (IsRunOf o accesses odds) schedules
  pub tallied : Tallied (map (given_in o accesses) schedules) schedules outcomes
  pub spread : AreSpreads (λ measure. map (value_of o accesses measure) schedules) spreads

-- the same of so many runs
pub record ToldOf (o : Opening) (accesses : List WorkloadAccess) (odds : Odds) (runs : ℕ) (outcomes : List Outcome) (spreads : List Spread)
    : Type 0 where
  pub schedules : List (List Event)
  pub count : length schedules ≡ runs
  pub tells : Tells o accesses odds schedules outcomes spreads

-- There are so many runs of the workload, in worlds that begin with so many pages, whose outcomes and spreads these are: one for each of all
-- that is measured.
pub record IsTally (sites pages : ℕ) (accesses : List WorkloadAccess) (odds : Odds) (seed runs : ℕ) (tally : Tally) : Type 0 where
  pub first : tally.seed ≡ seed
  pub same : tally.runs ≡ runs
  pub told : ToldOf (Preset sites pages) accesses odds runs tally.outcomes.items tally.spreads.items
  pub measures : map (λ (spread : Spread). spread.measure) tally.spreads.items ≡ measures_of pages accesses
