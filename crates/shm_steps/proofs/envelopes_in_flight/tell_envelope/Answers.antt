use Rattle.std.proofs.Common.{codes, string_bytes}
use Rattle.shm_parts.specs.Message.{envelope_of, message_of}
use Rattle.shm_steps.specs.Section.{message_text, way_text}
use Rattle.shm_steps.proofs.InARow.{pushed, three_told}
use Rattle.shm_steps.proofs.envelopes_in_flight.tell_envelope.Goals as goal

pub returns : goal.returns
returns g c =
    three_told c.push_str.result (string_bytes c.args.out.now) (string_bytes c.tell_way.new.out) (string_bytes c.tell_message.new.out) (string_bytes c.push_str.new.self)
    (way_text c.args.number (envelope_of c.args.envelope.now)) (message_text (message_of c.args.envelope.now.message)) (codes "</li>\n")
    c.in_ok-tell_way.ensures c.in_ok-tell_message.ensures
    (pushed c.push_str.result (string_bytes c.tell_message.new.out) (string_bytes c.push_str.new.self) (codes "</li>\n") c.push_str.ensures.bytes)
