use Rattle.std.proofs.Common.{◌≡◌, drop, map}
use Rattle.shm_wire.specs.UnmapOf.{run_in, unmap_in}
use Rattle.shm_process.specs.Desk.{brought}
use Rattle.shm_process.specs.DeskOf.{desk_of}
use Rattle.shm_process.proofs.desk.Desk.bring.Given as goal

-- the runs to come lead to where all led
abbrev pub invariant-runs : goal.invariant-runs
invariant-runs g l = brought (desk_of l.self) (unmap_in l.ask) (drop l.run-index (map run_in l.runs)) ≡ brought (desk_of l.fn.self) (unmap_in l.ask) (map run_in l.runs)
