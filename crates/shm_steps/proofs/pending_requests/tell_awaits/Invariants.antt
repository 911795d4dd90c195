use Rattle.std.proofs.Common.{slice_get, string_bytes}
use Rattle.shm_model.specs.World as model
use Rattle.shm_world.specs.World.{StandsFor}
use Rattle.shm_debug.proofs.TellingLemmas.{ToldUpTo}
use Rattle.shm_steps.specs.Section.{site_awaits}
use Rattle.shm_steps.proofs.pending_requests.tell_awaits.Given as goal

abbrev pub invariant-sites : goal.invariant-sites
invariant-sites g l =
    (w : model.World) → StandsFor l.world w → ToldUpTo (λ s. site_awaits s (slice_get w.sites s)) 0 l.site (string_bytes l.initial.out) (string_bytes l.out)
