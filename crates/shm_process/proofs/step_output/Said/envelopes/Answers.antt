use Rattle.std.proofs.Common.{map, string_bytes}
use Rattle.shm_process.proofs.SentLines.{one_more}
use Rattle.shm_process.specs.Lines.{envelope_lines}
use Rattle.shm_parts.specs.Message.{envelope_of}
use Rattle.shm_seal.specs.SealOf.{seal_of}
use Rattle.shm_process.proofs.step_output.Said.envelopes.Goals as goal

pub sent-preserved : goal.sent-preserved
sent-preserved g c =
    let said = c.args.self.now in
    one_more (seal_of c.args.seal.now) envelope_of said.clock said.index c.sent.place c.deref-envelope-items.result.now said.sent.items c.envelope-item.result
    (string_bytes c.sent.text) (string_bytes c.push_envelope.new.text) (envelope_lines (seal_of c.args.seal.now) said.clock said.index 0 (map envelope_of said.sent.items))
    c.deref-envelope-items.ensures.value c.sent-test.true c.envelope-item.is c.in_ok-push_envelope.ensures c.sent.invariant
