use Rattle.std.proofs.Common.{◌≡◌, drop, map}
use Rattle.std.specs.List.{list_all}
use Rattle.shm_wire.specs.UnmapOf.{run_in}
use Rattle.shm_process.specs.Remaps as remaps
use Rattle.shm_process.proofs.node_mapped_pages.are_of_page.Given as goal

-- those to come are the page's if all are
abbrev pub invariant-runs : goal.invariant-runs
invariant-runs g l = list_all (remaps.is_of_page l.index) (drop l.run-index (map run_in l.runs)) ≡ list_all (remaps.is_of_page l.index) (map run_in l.runs)
