use Rattle.std.proofs.Common.{◌≡◌, []}
use Rattle.std.specs.Prelude.{map}
use Rattle.shm_model.specs.World.{Preset}
use Rattle.shm_simulate.specs.Tally.{Tells, ToldOf}
use Rattle.shm_simulate.specs.declared.spread.Spread.{Spread}
use Rattle.shm_simulate.proofs.simulate_runs.run_all.Given as goal

-- the runs so far are told
abbrev pub invariant-runs : goal.invariant-runs
invariant-runs l = record {
  told : Tells (Preset l.sites l.pages) l.accesses l.odds [] l.fn.tally.outcomes.items l.fn.tally.spreads.items
      → ToldOf (Preset l.sites l.pages) l.accesses l.odds l.run l.tally.outcomes.items l.tally.spreads.items;
  measures : map (λ (spread : Spread). spread.measure) l.tally.spreads.items ≡ map (λ (spread : Spread). spread.measure) l.fn.tally.spreads.items;
  runs : l.tally.runs ≡ l.fn.tally.runs;
  seed : l.tally.seed ≡ l.fn.tally.seed;
}
