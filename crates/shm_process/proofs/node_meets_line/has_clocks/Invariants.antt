use Rattle.std.proofs.Common.{◌≡◌, ◌+◌, drop, map}
use Rattle.shm_wire.specs.UnmapOf.{run_in}
use Rattle.shm_process.proofs.MetLines.{stores_in}
use Rattle.shm_process.proofs.node_meets_line.has_clocks.Given as goal

-- with what the runs to come bring, it is as many as all bring
abbrev pub invariant-runs : goal.invariant-runs
invariant-runs g l = l.last + stores_in (drop l.run-index (map run_in l.runs)) ≡ l.clock + stores_in (map run_in l.runs)
