use Rattle.std.proofs.Common.{string_bytes}
use Rattle.shm_model.specs.World as model
use Rattle.shm_world.specs.Showing.{shown}
use Rattle.shm_world.specs.World.{StandsFor}
use Rattle.shm_debug.proofs.TellingLemmas.{ToldUpTo}
use Rattle.shm_steps.specs.Section.{state_cell}
use Rattle.shm_steps.proofs.pages_table.tell_states.Given as goal

abbrev pub invariant-sites : goal.invariant-sites
invariant-sites g l =
    (w : model.World) → StandsFor l.world w → ToldUpTo (λ s. state_cell (shown w s l.fn.page)) 0 l.site (string_bytes l.initial.out) (string_bytes l.out)
