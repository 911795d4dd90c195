-- An event tells what it sent: nothing that it sends is gone right after it.
use Rattle.std.specs.Prelude.{◌≡◌, ℕ, ◌+◌, ◌≤◌, false, List, [], ◌∷◌, ◌++◌, length}
use Rattle.shm_model.specs.declared.event.Event.{Event}
use Rattle.shm_model.specs.Message.{Envelope}
use Rattle.shm_model.specs.World.{World, next}
use Rattle.shm_debug.specs.Sent.{envelope_text, sent_text}

-- these envelopes, numbered from this number on
abbrev pub envelopes_text : ℕ → List Envelope → List ℕ
envelopes_text number [] = []
envelopes_text number (e ∷ es) = envelope_text number e ++ envelopes_text (number + 1) es

-- the event sent these envelopes, and they are told after it
pub record TellsWhatItSent (w : World) (e : Event) : Type 0 where
  pub out : List Envelope
  pub sent : (next w e).world.sent ≡ w.sent ++ out
  pub told : sent_text (next w e).world (length w.sent) ≡ envelopes_text (length w.sent) out

-- so it is in a world in which nothing is gone that was never sent
abbrev pub EachEventTells : Type 0
EachEventTells = (w : World) (e : Event) → ((k : ℕ) → length w.sent ≤ k → w.gone k ≡ false) → TellsWhatItSent w e
