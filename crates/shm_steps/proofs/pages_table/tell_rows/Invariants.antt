use Rattle.std.proofs.Common.{◌≡◌, ◌++◌, drop, string_bytes}
use Rattle.std.specs.List.{flat_map}
use Rattle.shm_model.specs.World as model
use Rattle.shm_world.specs.World.{StandsFor}
use Rattle.shm_steps.specs.Section.{row_text}
use Rattle.shm_steps.proofs.pages_table.tell_rows.Given as goal

abbrev pub invariant-pages : goal.invariant-pages
invariant-pages g l =
    (w : model.World) → StandsFor l.world w
    → string_bytes l.out ++ flat_map (row_text w) (drop l.page-index l.pages) ≡ string_bytes l.initial.out ++ flat_map (row_text w) l.pages
