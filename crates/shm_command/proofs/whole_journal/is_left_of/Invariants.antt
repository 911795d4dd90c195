use Rattle.std.proofs.Common.{◌≡◌, ◌<◌, ℕ, true, slice_index}
use Rattle.shm_command.specs.First.{may_stand}
use Rattle.shm_command.proofs.whole_journal.is_left_of.Given as goal

-- each byte so far
abbrev pub invariant-bytes : goal.invariant-bytes
invariant-bytes l = (k : ℕ) → k < l.at → may_stand l.batch k (slice_index l.bytes k) ≡ true
