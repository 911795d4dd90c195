use Rattle.std.proofs.Common.{arith, string_bytes}
use Rattle.shm_model.specs.World as model
use Rattle.shm_debug.specs.Sent.{live_text}
use Rattle.shm_debug.proofs.TellingLemmas.{told_more}
use Rattle.shm_debug.proofs.printed_text.envelopes_in_flight.tell_sent.Goals as goal

pub numbers-preserved : goal.numbers-preserved
numbers-preserved g c = (
  omega (arith, c.numbers-test.true),
  λ w stands. told_more (λ k. live_text k (model.live w k)) c.args.first c.numbers.number (string_bytes c.args.out.now) (string_bytes c.numbers.out) (string_bytes c.tell_live.new.out)
      c.numbers.auto.number (c.numbers.invariant.1 w stands) (c.in_ok-tell_live.ensures w stands),
)
