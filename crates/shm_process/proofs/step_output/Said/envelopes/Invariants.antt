use Rattle.std.proofs.Common.{◌≡◌, ◌++◌, drop, map, string_bytes}
use Rattle.shm_process.specs.Lines.{envelope_lines}
use Rattle.shm_parts.specs.Message.{envelope_of}
use Rattle.shm_seal.specs.SealOf.{seal_of}
use Rattle.shm_process.proofs.step_output.Said.envelopes.Given as goal

-- what is still to come makes the text whole
abbrev pub invariant-sent : goal.invariant-sent
invariant-sent g l =
    string_bytes l.text ++ envelope_lines (seal_of l.seal) l.self.clock l.self.index l.place (drop l.place (map envelope_of l.self.sent.items))
    ≡ envelope_lines (seal_of l.seal) l.self.clock l.self.index 0 (map envelope_of l.self.sent.items)
