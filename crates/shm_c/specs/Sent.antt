-- Envelopes and what worlds show of pages, as numbers.
use Rattle.std.specs.Prelude.{ℕ, Bool, false, true, Option, None, Some}
use Rattle.shm_model.specs.declared.answer.Access.{Access}
use Rattle.shm_model.specs.declared.answer.Access.TheVariants as access
use Rattle.shm_model.specs.declared.answer.Shown.{Shown}
use Rattle.shm_model.specs.declared.answer.State.{State}
use Rattle.shm_model.specs.declared.answer.State.TheVariants as state
use Rattle.shm_model.specs.declared.request_kind.Kind.{Kind}
use Rattle.shm_model.specs.declared.request_kind.Kind.TheVariants.{Read, Write}
use Rattle.shm_model.specs.Entry as entry
use Rattle.shm_model.specs.Message as model
use Rattle.shm_c.specs.declared.numbers.EnvelopeNumbers.{EnvelopeNumbers}
use Rattle.shm_c.specs.declared.numbers.ShownNumbers.{ShownNumbers}

abbrev pub no_envelope : EnvelopeNumbers
no_envelope = record { kind = 0; from = 0; to = 0; seg = 0; index = 0; number = 0; writes = false; hand_to = 0 }

abbrev pub is_write : Kind → Bool
is_write Read = false
is_write Write = true

abbrev pub note_numbers : entry.Note → EnvelopeNumbers
note_numbers (entry.Ask request kind) = record no_envelope { kind = 1; number = request; writes = is_write kind }
note_numbers (entry.Cleared number) = record no_envelope { kind = 2; number = number }
note_numbers (entry.Confirm number) = record no_envelope { kind = 3; number = number }
note_numbers (entry.Clear number) = record no_envelope { kind = 4; number = number }
note_numbers (entry.Hand number kind to) = record no_envelope { kind = 5; number = number; writes = is_write kind; hand_to = to }
note_numbers (entry.Page number kind _) = record no_envelope { kind = 6; number = number; writes = is_write kind }

abbrev pub message_numbers : model.Message → EnvelopeNumbers
message_numbers (model.Of page note) = record (note_numbers note) { seg = page.seg; index = page.index }
message_numbers (model.Call number _) = record no_envelope { kind = 7; number = number }
message_numbers (model.Replies number _) = record no_envelope { kind = 8; number = number }
message_numbers (model.Purge id) = record no_envelope { kind = 9; seg = id }
message_numbers (model.Purged id) = record no_envelope { kind = 10; seg = id }

-- an envelope that is on its way
abbrev pub envelope_numbers : Option model.Envelope → EnvelopeNumbers
envelope_numbers None = no_envelope
envelope_numbers (Some e) = record (message_numbers e.message) { from = e.from; to = e.to }

abbrev pub access_number : Option Access → ℕ
access_number None = 3
access_number (Some access.Nil) = 0
access_number (Some access.Read) = 1
access_number (Some access.Write) = 2

abbrev pub state_number : State → ℕ
state_number state.Nil = 0
state_number state.Copy = 1
state_number state.OwnRead = 2
state_number state.OwnWrite = 3
state_number state.Handed = 4
state_number state.Purged = 5

abbrev pub shown_numbers : Option Shown → ShownNumbers
shown_numbers None = record { state = 6; seen = 0 }
shown_numbers (Some shown) = record { state = state_number shown.state; seen = shown.seen }
