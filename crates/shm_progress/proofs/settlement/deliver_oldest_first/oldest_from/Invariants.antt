use Rattle.std.proofs.Common.{◌≡◌, ℕ, ◌<◌, ◌≤◌, None}
use Rattle.shm_model.specs.World as model
use Rattle.shm_world.specs.World.{StandsFor}
use Rattle.shm_progress.proofs.settlement.deliver_oldest_first.oldest_from.Given as goal

-- none of those before this number is on its way
abbrev pub invariant-numbers : goal.invariant-numbers
invariant-numbers g l = (w : model.World) → StandsFor l.world w → (k : ℕ) → l.fn.from ≤ k → k < l.number → model.live w k ≡ None
