use Rattle.std.proofs.Common.{◌≡◌, ◌++◌, map, string_bytes, take}
use Rattle.shm_report.specs.LogText.{sent_text}
use Rattle.shm_parts.specs.Message.{envelope_of}
use Rattle.shm_report.proofs.log_lines.push_sent.Given as goal

-- the text of the envelopes so far
abbrev pub invariant-sent : goal.invariant-sent
invariant-sent l = string_bytes l.text ≡ string_bytes l.initial.text ++ sent_text l.clock l.index 0 (take l.place (map envelope_of l.sent))
