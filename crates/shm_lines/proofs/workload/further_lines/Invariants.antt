use Rattle.std.proofs.Common.{◌≡◌, ◌+◌, length}
use Rattle.shm_lines.specs.Workload.{parts_of, prefixed, accesses_on}
use Rattle.shm_lines.proofs.workload.further_lines.Given as goal

abbrev pub invariant-lines : goal.invariant-lines
invariant-lines g l = accesses_on l.sites l.size 2 (parts_of l.bytes) ≡ prefixed l.accesses.items (accesses_on l.sites l.size (length l.accesses.items + 2) (parts_of l.rest))

abbrev pub decreases-lines : goal.decreases-lines
decreases-lines g l = length l.rest
