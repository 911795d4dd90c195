use Rattle.std.proofs.Common.{◌≡◌, [], take}
use Rattle.std.specs.Prelude.{map}
use Rattle.shm_simulate.specs.Spreads.{AreSpreads}
use Rattle.shm_simulate.specs.declared.spread.Spread.{Spread}
use Rattle.shm_simulate.proofs.simulate_runs.spreads_of.Given as goal

abbrev pub invariant-measures : goal.invariant-measures
invariant-measures l = record {
  none : AreSpreads (λ _. []) l.spreads.items;
  measures : map (λ (spread : Spread). spread.measure) l.spreads.items ≡ take l.measure-index l.all;
}
