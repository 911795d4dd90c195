use Rattle.std.proofs.Common.{◌≡◌, ℕ, ◌+◌, vec_len, get_or}
use Rattle.shm_simulate.proofs.spread.grow.Given as goal

abbrev pub invariant-values : goal.invariant-values
invariant-values l = record {
  long : vec_len l.counts ≡ vec_len l.fn.counts + l.counter;
  same : (value : ℕ) → get_or l.counts.items value 0 ≡ get_or l.fn.counts.items value 0;
}
