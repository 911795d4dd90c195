use Rattle.std.proofs.Common.{◌≡◌, ◌≤◌, ◌-◌, ◌++◌, replicate}
use Rattle.shm_draw.proofs.envelope_origins.note_origins.Given as goal

abbrev pub invariant-envelopes : goal.invariant-envelopes
invariant-envelopes g l =
    (l._envelope - l.first ≤ l.sent - l.first) × (l.origins.items ≡ l.initial.origins.items ++ replicate (l._envelope - l.first) l.number)
