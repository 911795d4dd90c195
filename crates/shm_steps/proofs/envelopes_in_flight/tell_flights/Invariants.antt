use Rattle.std.proofs.Common.{string_bytes}
use Rattle.shm_model.specs.World as model
use Rattle.shm_world.specs.World.{StandsFor}
use Rattle.shm_debug.proofs.TellingLemmas.{ToldUpTo}
use Rattle.shm_steps.specs.Section.{flight_text}
use Rattle.shm_steps.proofs.envelopes_in_flight.tell_flights.Given as goal

abbrev pub invariant-numbers : goal.invariant-numbers
invariant-numbers g l =
    (w : model.World) → StandsFor l.world w → ToldUpTo (λ k. flight_text k (model.live w k)) 0 l.number (string_bytes l.initial.out) (string_bytes l.out)
