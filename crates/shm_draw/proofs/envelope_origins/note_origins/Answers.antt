use Rattle.std.proofs.Common.{◌≡◌, ◌∙◌, ◌-◌, ◌++◌, length, replicate, ap, arith}
use Rattle.shm_draw.proofs.Numbered.{replicated_more}
use Rattle.shm_draw.proofs.envelope_origins.note_origins.Goals as goal

pub envelopes-preserved : goal.envelopes-preserved
envelopes-preserved g c = (
  omega (arith, c.envelopes-test.true),
  replicated_more c.args.origins.now.items c.envelopes.origins.items c.push.new.self.items c.args.number c.len-first.result c.envelopes._envelope
      c.envelopes.auto._envelope c.envelopes.invariant.1 c.in_ok-push.ensures.items,
)

pub returns : goal.returns
returns g c =
    let e : c.envelopes._envelope - c.len-first.result ≡ c.args.sent - length c.args.origins.now.items =
    omega (arith, c.envelopes-test.false, c.envelopes.invariant.0, c.len-first.ensures) in
    c.envelopes.invariant.1 ∙ ap (λ n. c.args.origins.now.items ++ replicate n c.args.number) e
