use Rattle.std.proofs.Common.{string_bytes}
use Rattle.shm_model.specs.World as model
use Rattle.shm_world.specs.World.{StandsFor}
use Rattle.shm_draw.specs.Drawing.{sheet}
use Rattle.shm_draw.specs.Picture.{first_scene}
use Rattle.shm_draw.proofs.Going.{Going}
use Rattle.shm_draw.proofs.svg_of_page.tell_events.Given as goal

abbrev pub invariant-events : goal.invariant-events
invariant-events g l =
    (w : model.World) → StandsFor l.initial.world w
    → Going l.page (first_scene w) l.events (sheet (string_bytes l.initial.shapes) (string_bytes l.initial.labels)) (sheet (string_bytes l.shapes) (string_bytes l.labels))
    l.world l.index l.origins.items
