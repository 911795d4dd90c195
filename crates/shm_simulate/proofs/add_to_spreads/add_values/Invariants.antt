use Rattle.std.proofs.Common.{◌≡◌, ℕ, ◌<◌, ◌≤◌, ◌++◌, ◌∷◌, [], List, Some, length, slice_get, vec_len}
use Rattle.std.specs.Prelude.{map}
use Rattle.shm_simulate.specs.Measures.{value_in}
use Rattle.shm_simulate.specs.Spreads.{AreSpreads, IsSpread}
use Rattle.shm_simulate.specs.declared.measure.Measure.{Measure}
use Rattle.shm_simulate.specs.declared.spread.Spread.{Spread}
use Rattle.shm_simulate.proofs.add_to_spreads.add_values.Given as goal

-- the spreads so far have the run's values, and the others are as they were
abbrev pub invariant-spreads : goal.invariant-spreads
invariant-spreads l = record {
  long : vec_len l.spreads ≡ vec_len l.fn.spreads;
  measures : map (λ (spread : Spread). spread.measure) l.spreads.items ≡ map (λ (spread : Spread). spread.measure) l.fn.spreads.items;
  others : (k : ℕ) → l.place ≤ k → slice_get l.spreads.items k ≡ slice_get l.fn.spreads.items k;
  so_far : (values : Measure → List ℕ) → AreSpreads values l.fn.spreads.items → ((m : Measure) → length (values m) < 4294967295)
      → (k : ℕ) (spread : Spread) → k < l.place → slice_get l.spreads.items k ≡ Some spread
      → IsSpread spread.counts.items (values spread.measure ++ value_in spread.measure l.lines l.messages l.events ∷ []);
}
