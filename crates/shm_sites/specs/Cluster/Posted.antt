-- Envelopes on their way, and what a step of a log sent.
use Rattle.std.specs.Prelude.{ℕ, ◌+◌, List, [], ◌∷◌, Option, Some, None, map, slice_get}
use Rattle.shm_model.specs.Log.{Logged}
use Rattle.shm_model.specs.Message.{Envelope}
use Rattle.shm_parts.specs.Message.{envelope_of}
use Rattle.shm_logs.specs.Boxes.Logged.{stamp_of}
use Rattle.shm_sites.specs.Cluster.Sent.{Sent}
use Rattle.shm_sites.specs.declared.cluster.posted_envelope.Posted.{Posted}

abbrev pub sent_of : {A : Type 0} → Posted A → Sent
sent_of posted = record { envelope = envelope_of posted.envelope; source = stamp_of posted.source }

abbrev pub all_sent : {A : Type 0} → List (Posted A) → List Sent
all_sent all = map sent_of all

-- these envelopes as the step of this stamp and this index sent them, the first of them at this place
abbrev pub sent_from : ℕ → ℕ → ℕ → List Envelope → List Sent
sent_from at index place [] = []
sent_from at index place (e ∷ es) =
    record { envelope = e; source = record { at = at; index = index; place = place } } ∷ sent_from at index (place + 1) es

-- all that this step, which has this index, sent
abbrev pub sent_by : ℕ → Logged → List Sent
sent_by index step = sent_from step.stamp index 0 step.sent

abbrev pub sent_if : ℕ → Option Logged → List Sent
sent_if index None = []
sent_if index (Some step) = sent_by index step

-- all that the log's step of this index sent; nothing, where it has none
abbrev pub sent_at : List Logged → ℕ → List Sent
sent_at log index = sent_if index (slice_get log index)
