use Rattle.std.proofs.Common.{string_bytes}
use Rattle.shm_model.specs.World as model
use Rattle.shm_world.specs.World.{StandsFor}
use Rattle.shm_draw.proofs.Going.{Paging}
use Rattle.shm_draw.proofs.svg_picture.tell_pages.Given as goal

abbrev pub invariant-pages : goal.invariant-pages
invariant-pages g l =
    (w : model.World) → StandsFor l.world w → Paging l.pages w l.events l.captions (string_bytes l.initial.out) (string_bytes l.out) l.page-index l.top
