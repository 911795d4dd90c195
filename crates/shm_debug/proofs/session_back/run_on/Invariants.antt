use Rattle.shm_model.specs.World as model
use Rattle.shm_world.specs.World.{StandsFor}
use Rattle.shm_debug.specs.Checkpoints.{AllHold}
use Rattle.shm_debug.specs.Standing.{first_events, standing, world_of}
use Rattle.shm_debug.proofs.session_back.run_on.Given as goal

-- the world stands after the events so far, and the checkpoints hold
abbrev pub invariant-events : goal.invariant-events
invariant-events g l = record {
  stands : (o : model.Opening) → StandsFor l.fn.world (world_of (first_events l.from (standing o l.events))) → StandsFor l.world (world_of (first_events l.index (standing o l.events)));
  kept : (o : model.Opening) → StandsFor l.fn.world (world_of (first_events l.from (standing o l.events))) → AllHold (standing o l.events) l.fn.checkpoints → AllHold (standing o l.events) l.checkpoints;
}
