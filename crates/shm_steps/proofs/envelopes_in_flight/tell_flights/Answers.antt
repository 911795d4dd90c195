use Rattle.std.proofs.Common.{arith, string_bytes}
use Rattle.shm_model.specs.World as model
use Rattle.shm_debug.proofs.TellingLemmas.{told_more}
use Rattle.shm_steps.specs.Section.{flight_text}
use Rattle.shm_steps.proofs.envelopes_in_flight.tell_flights.Goals as goal

pub numbers-preserved : goal.numbers-preserved
numbers-preserved g c = λ w stands.
    told_more (λ k. flight_text k (model.live w k)) 0 c.numbers.number (string_bytes c.args.out.now) (string_bytes c.numbers.out) (string_bytes c.tell_live.new.out)
    (omega arith) (c.numbers.invariant w stands) (c.in_ok-tell_live.ensures w stands)
