use Rattle.shm_model.specs.World as model
use Rattle.shm_world.specs.World.{StandsFor}
use Rattle.shm_draw.proofs.Touching.{Touching}
use Rattle.shm_draw.proofs.pages_to_draw.touch_all.Given as goal

abbrev pub invariant-events : goal.invariant-events
invariant-events g l =
    (w : model.World) → StandsFor l.initial.world w → Touching w l.events l.initial.pages.items l.pages.items l.world l.event-index
