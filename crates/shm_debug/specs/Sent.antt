-- What a debugger says of an event: what was answered, and each envelope that was sent.
use Rattle.std.specs.Prelude.{ℕ, ◌-◌, List, [], ◌++◌, codes, Option, Some, None, length}
use Rattle.std.specs.Fmt.{decimal}
use Rattle.std.specs.List.{flat_map, range_with_len}
use Rattle.shm_model.specs.declared.answer.Answer.{Answer}
use Rattle.shm_model.specs.Message.{Envelope}
use Rattle.shm_model.specs.World.{World, live}
use Rattle.shm_text.specs.Names.{message_name}
use Rattle.shm_text.specs.Text.{answer_text}

-- an envelope under its number: where it goes, and what it holds
abbrev pub envelope_text : ℕ → Envelope → List ℕ
envelope_text number e = codes " m" ++ (decimal number ++ (codes ">" ++ (decimal e.to ++ (codes ":" ++ message_name e.message))))

abbrev pub live_text : ℕ → Option Envelope → List ℕ
live_text number None = []
live_text number (Some e) = envelope_text number e

-- the envelopes of this number and above that aren't gone
abbrev pub sent_text : World → ℕ → List ℕ
sent_text w first = flat_map (λ k. live_text k (live w k)) (range_with_len first (length w.sent - first))

-- an answer, and the envelopes from this number on
abbrev pub event_text : Answer → World → ℕ → List ℕ
event_text answer w first = answer_text answer ++ sent_text w first
