use Rattle.std.proofs.Common.{◌+◌, ◌≤◌, length, take}
use Rattle.std.specs.Vec.{vec_capacity, vec_len}
use Rattle.shm_model.specs.World as model
use Rattle.shm_world.specs.World.{StandsFor}
use Rattle.shm_world.proofs.Runs.{Ran}
use Rattle.shm_world.proofs.world.World.run.Given as goal

-- the world stands after the events so far, their answers joined the others, and there is room for those of the rest
abbrev pub invariant-events : goal.invariant-events
invariant-events g l = record {
  ran : (w : model.World) → StandsFor l.fn.self w → Ran l.self l.fn.out.items l.out.items w (take l.event-index l.events);
  room : vec_len l.out + length l.events ≤ vec_capacity l.out + l.event-index;
}
