use Rattle.std.proofs.Common.{◌≡◌}
use Rattle.shm_model.specs.Opening.{opening_of}
use Rattle.shm_debug.specs.Standing.{first_events, standing, world_of}
use Rattle.shm_world.specs.World.{StandsFor}
use Rattle.shm_prompt.specs.Undo as undo
use Rattle.shm_prompt.proofs.last_change.last_change.Given as goal

-- the world after the events so far, and the last of them that changed something
abbrev pub invariant-events : goal.invariant-events
invariant-events g l =
    StandsFor l.world (world_of (first_events l.place (standing (opening_of l.fn.opening) l.fn.events)))
    × (l.found ≡ undo.last_change (standing (opening_of l.fn.opening) l.fn.events) l.place)
