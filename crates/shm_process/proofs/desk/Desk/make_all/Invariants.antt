use Rattle.std.proofs.Common.{◌≡◌}
use Rattle.shm_process.specs.Desk.{all_made}
use Rattle.shm_process.specs.DeskOf.{desk_of}
use Rattle.shm_process.specs.Waiting.{most_steps}
use Rattle.shm_process.proofs.desk.Desk.make_all.Given as goal

-- the rounds that are left lead to where all led
abbrev pub invariant-asks : goal.invariant-asks
invariant-asks g l = all_made l.left (desk_of l.self) ≡ all_made most_steps (desk_of l.fn.self)

abbrev pub decreases-asks : goal.decreases-asks
decreases-asks g l = l.left
