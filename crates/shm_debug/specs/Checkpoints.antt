-- Checkpoints: worlds as they were after the first so many of the standing events, kept for going back.
use Rattle.std.specs.Prelude.{◌≤◌, length}
use Rattle.std.specs.List.{All}
use Rattle.shm_world.specs.World.{StandsFor}
use Rattle.shm_debug.specs.Standing.{Standing, first_events, world_of}
use Rattle.shm_debug.specs.declared.checkpoint.Checkpoint.{Checkpoint}
use Rattle.shm_debug.specs.declared.checkpoints.Checkpoints.{Checkpoints}

-- the checkpoint's world is the one that so many of the standing events lead to
pub record Holds {A : Type 0} (s : Standing) (checkpoint : Checkpoint A) : Type 0 where
  pub within : checkpoint.count ≤ length s.events
  pub stands : StandsFor checkpoint.world (world_of (first_events checkpoint.count s))

abbrev pub AllHold : {A : Type 0} → Standing → Checkpoints A → Type 0
AllHold s checkpoints = All (Holds s) checkpoints.ring.items
