use Rattle.std.proofs.Common.{◌-◌, ◌≤◌, length}
use Rattle.shm_world.specs.ByNumber.{place_for}
use Rattle.shm_world.proofs.numbered_values.ByNumber.place_for.Given as goal

abbrev pub invariant-places : goal.invariant-places
invariant-places g l = record {
  low : l.low ≤ place_for l.number l.self-inside.places.items;
  high : place_for l.number l.self-inside.places.items ≤ l.high;
  within : l.high ≤ length l.self-inside.places.items;
}

abbrev pub decreases-places : goal.decreases-places
decreases-places g l = l.high - l.low
