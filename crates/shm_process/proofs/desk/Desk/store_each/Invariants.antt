use Rattle.std.proofs.Common.{◌≡◌, ◌+◌, drop}
use Rattle.shm_wire.specs.UnmapOf.{unmap_in}
use Rattle.shm_process.specs.Desk.{stored_run}
use Rattle.shm_process.specs.DeskOf.{desk_of}
use Rattle.shm_process.proofs.desk.Desk.store_each.Given as goal

-- the bytes to come lead to where all led
abbrev pub invariant-bytes : goal.invariant-bytes
invariant-bytes g l =
    stored_run (desk_of l.self) (unmap_in l.ask) (l.offset + l.place) (drop l.place l.bytes) ≡ stored_run (desk_of l.fn.self) (unmap_in l.ask) l.offset l.bytes
