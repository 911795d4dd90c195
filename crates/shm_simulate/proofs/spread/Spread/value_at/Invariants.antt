use Rattle.std.proofs.Common.{◌≡◌, drop}
use Rattle.shm_simulate.specs.Spreads.{ranked}
use Rattle.shm_simulate.proofs.spread.Spread.value_at.Given as goal

-- what is still to be walked gives the same
abbrev pub invariant-values : goal.invariant-values
invariant-values l = ranked (drop l.value l.self.counts.items) l.left l.value ≡ ranked l.self.counts.items l.rank 0
