use Rattle.std.proofs.Common.{◌≤◌, ◌-◌, string_bytes}
use Rattle.shm_model.specs.World as model
use Rattle.shm_world.specs.World.{StandsFor}
use Rattle.shm_debug.specs.Sent.{live_text}
use Rattle.shm_debug.proofs.TellingLemmas.{ToldUpTo}
use Rattle.shm_debug.proofs.printed_text.envelopes_in_flight.tell_sent.Given as goal

abbrev pub invariant-numbers : goal.invariant-numbers
invariant-numbers g l =
    (l.number - l.first ≤ l.number-end - l.first)
    × ((w : model.World) → StandsFor l.world w → ToldUpTo (λ k. live_text k (model.live w k)) l.first l.number (string_bytes l.initial.out) (string_bytes l.out))
