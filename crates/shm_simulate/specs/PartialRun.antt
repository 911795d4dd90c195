-- How far a run of a workload came.
use Rattle.std.specs.Prelude.{◌≡◌, List}
use Rattle.std.specs.List.{All}
use Rattle.shm_model.specs.World.{Opening, run}
use Rattle.shm_world.specs.World.{StandsFor}
use Rattle.shm_lines.specs.declared.workload_access.WorkloadAccess.{WorkloadAccess}
use Rattle.shm_simulate.specs.Lines.{InOrder, lines_after}
use Rattle.shm_simulate.specs.Messages.{messages_after}
use Rattle.shm_simulate.specs.Tries.{Allowed}
use Rattle.shm_simulate.specs.declared.odds.Odds.{Odds}
use Rattle.shm_simulate.specs.declared.partial_run.PartialRun.{PartialRun}

-- the world, the lines and the messages are those of the run of its events from the opening, in which the sites made their lines' accesses in
-- order, and only what the odds allow happened
pub record Follows (o : Opening) (accesses : List WorkloadAccess) (odds : Odds) (partial : PartialRun) : Type 0 where
  pub stands : StandsFor partial.world (run o partial.events.items).world
  pub lines : partial.lines.items ≡ lines_after accesses (run o partial.events.items).account
  pub messages : partial.messages.items ≡ messages_after (run o partial.events.items).account
  pub order : InOrder accesses (run o partial.events.items).account
  pub allowed : All (Allowed odds) partial.events.items
