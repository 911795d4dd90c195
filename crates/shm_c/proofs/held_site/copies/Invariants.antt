use Rattle.std.proofs.Common.{◌≡◌, map, take}
use Rattle.shm_parts.specs.Message.{envelope_of}
use Rattle.shm_c.proofs.held_site.copies.Given as goal

-- those so far are copied
abbrev pub invariant-copied : goal.invariant-copied
invariant-copied l = map envelope_of l.copies.items ≡ map envelope_of (take l.envelope-index l.envelopes)
