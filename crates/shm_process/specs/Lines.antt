-- The lines of the envelopes that a step sent: each with where it was sent, sealed, and a line feed behind it.
use Rattle.std.specs.Prelude.{ℕ, ◌+◌, List, [], ◌∷◌, ◌++◌}
use Rattle.shm_model.specs.Message.{Envelope}
use Rattle.shm_seal.specs.Seal.{Seal, sealed}
use Rattle.shm_wire.specs.Sent.{envelope_line}
use Rattle.shm_process.specs.Node.{Said}

-- these envelopes, from this place on
abbrev pub envelope_lines : Seal → ℕ → ℕ → ℕ → List Envelope → List ℕ
envelope_lines seal clock index place [] = []
envelope_lines seal clock index place (e ∷ es) =
    sealed seal (envelope_line (record { source = record { at = clock; index = index; place = place }; envelope = e }))
    ++ (10 ∷ envelope_lines seal clock index (place + 1) es)

abbrev pub sent_lines : Seal → Said → List ℕ
sent_lines seal said = envelope_lines seal said.clock said.index 0 said.sent
