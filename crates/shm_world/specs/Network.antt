-- The envelopes that are on their way, against all that were ever sent and those that are gone.
use Rattle.std.specs.Prelude.{◌≡◌, ◌-◌, ◌≤◌, ℕ, Bool, false, List, ◌++◌, Option, Some, None, if◌then◌else◌, length, map, nat_le, slice_get}
use Rattle.shm_model.specs.Basics.{greatest}
use Rattle.shm_model.specs.Message as model
use Rattle.shm_parts.specs.Message.{envelope_of}
use Rattle.shm_parts.specs.declared.message.Envelope.{Envelope}
use Rattle.shm_world.specs.ByNumber as values
use Rattle.shm_world.specs.ByNumber.{value_of}
use Rattle.shm_world.specs.declared.network.Network.{Network}

abbrev pub envelope_at : {A : Type 0} → Option (Envelope A) → Option model.Envelope
envelope_at None = None
envelope_at (Some e) = Some (envelope_of e)

-- the envelope of this number, if it is on its way
abbrev pub on_way : {A : Type 0} → Network A → ℕ → Option model.Envelope
on_way network k = envelope_at (value_of k network.envelopes.places)

-- the same, but for those that were sent from this number on
abbrev pub sent_before : {A : Type 0} → ℕ → Network A → ℕ → Option model.Envelope
sent_before first network k = if nat_le first k then None else on_way network k

-- its place is this one
abbrev pub StandsAt : {A : Type 0} → ℕ → ℕ → Network A → Type 0
StandsAt k at network = values.StandsAt k at network.envelopes.places

abbrev pub least : ℕ → ℕ → ℕ
least a b = if nat_le a b then a else b

-- how many more envelopes fit without more memory, and have numbers
abbrev pub room_of : {A : Type 0} → Network A → ℕ
room_of network = least network.envelopes.spare (greatest - network.envelopes.next)

-- The network carries what was sent and isn't gone, under the numbers in which it was sent, from 0.
pub record Carries {A : Type 0} (network : Network A) (sent : List model.Envelope) (gone : ℕ → Bool) : Type 0 where
  pub count : network.envelopes.next ≡ length sent
  pub live : (k : ℕ) → on_way network k ≡ (if gone k then None else slice_get sent k)

-- Whatever the first network carries, the second carries too, with these envelopes sent behind; and each place stays where it is.
pub record CarriesOn {A : Type 0} (old new : Network A) (envelopes : List (Envelope A)) : Type 0 where
  pub carries : (sent : List model.Envelope) (gone : ℕ → Bool) → Carries old sent gone → ((k : ℕ) → length sent ≤ k → gone k ≡ false)
      → Carries new (sent ++ map envelope_of envelopes) gone
  pub places : (k at : ℕ) → StandsAt k at old → StandsAt k at new
