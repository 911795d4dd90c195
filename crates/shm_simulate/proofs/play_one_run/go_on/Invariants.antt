use Rattle.std.proofs.Common.{◌≡◌, List, length}
use Rattle.shm_model.specs.World.{Opening}
use Rattle.shm_lines.specs.declared.workload_access.WorkloadAccess.{WorkloadAccess}
use Rattle.shm_simulate.specs.PartialRun.{Follows}
use Rattle.shm_simulate.proofs.play_one_run.go_on.Given as goal

-- each turn makes one event
abbrev pub invariant-events : goal.invariant-events
invariant-events l = record {
  follows : (o : Opening) (accesses : List WorkloadAccess) → Follows o accesses l.odds l.fn.partial → Follows o accesses l.odds l.partial;
  lines : length l.partial.lines.items ≡ length l.fn.partial.lines.items;
  count : length l.partial.events.items ≡ l.counter;
}
