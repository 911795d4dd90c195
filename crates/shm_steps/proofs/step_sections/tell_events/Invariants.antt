use Rattle.std.proofs.Common.{string_bytes}
use Rattle.shm_model.specs.World as model
use Rattle.shm_world.specs.World.{StandsFor}
use Rattle.shm_steps.proofs.Stepping.{Stepping}
use Rattle.shm_steps.proofs.step_sections.tell_events.Given as goal

abbrev pub invariant-events : goal.invariant-events
invariant-events g l =
    (w : model.World) → StandsFor l.initial.world w → Stepping l.pages w l.events (string_bytes l.initial.out) (string_bytes l.out) l.world l.index
