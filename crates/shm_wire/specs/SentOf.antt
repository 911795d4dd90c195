-- Envelopes of the code, as the definitions speak of them.
use Rattle.shm_model.specs.Log as model
use Rattle.shm_parts.specs.Message.{envelope_of}
use Rattle.shm_wire.specs.Sent as wire
use Rattle.shm_wire.specs.declared.sent_envelope.Sent.{Sent}
use Rattle.shm_wire.specs.declared.sent_envelope.SentLine.{SentLine}
use Rattle.shm_wire.specs.declared.sent_envelope.Source.{Source}

abbrev pub source_of : Source → model.Stamp
source_of stamp = record { at = stamp.clock; index = stamp.index; place = stamp.place }

abbrev pub sent_of : {A : Type 0} → Sent A → wire.Sent
sent_of sent = record { source = source_of sent.source; envelope = envelope_of sent.envelope }

abbrev pub sent_in : {A : Type 0} → SentLine A → wire.Sent
sent_in line = record { source = source_of line.source; envelope = envelope_of line.envelope.now }
