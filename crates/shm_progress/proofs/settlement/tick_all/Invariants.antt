use Rattle.shm_model.specs.World as model
use Rattle.shm_progress.specs.Rest.Rounds.{ticks}
use Rattle.shm_progress.proofs.settlement.tick_all.Given as goal
use Rattle.shm_world.specs.World.{StandsFor, after}

-- the sites before this one ticked
abbrev pub invariant-sites : goal.invariant-sites
invariant-sites g l = (w : model.World) → StandsFor l.fn.world w → StandsFor l.world (after w (ticks l.site))
