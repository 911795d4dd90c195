use Rattle.std.proofs.Common.{◌≡◌, length}
use Rattle.shm_process.specs.Desk.{on_bytes}
use Rattle.shm_process.specs.DeskOf.{desk_of}
use Rattle.shm_process.proofs.desk.Desk.take.Given as goal

-- the bytes that are still to come lead to where all led
abbrev pub invariant-lines : goal.invariant-lines
invariant-lines g l = on_bytes (desk_of l.self) l.rest ≡ on_bytes (desk_of l.fn.self) l.bytes

abbrev pub decreases-lines : goal.decreases-lines
decreases-lines g l = length l.rest
