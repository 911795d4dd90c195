use Rattle.std.proofs.Common.{◌≡◌, length}
use Rattle.shm_process.specs.NodeOf.{node_of}
use Rattle.shm_process.specs.StepsOf.{steps_left}
use Rattle.shm_process.proofs.ManySteps.{IsClock, clock_of, leads}
use Rattle.shm_process.proofs.node.Node.replay_steps.Given as goal

-- the steps to come lead to where all led
abbrev pub invariant-steps : goal.invariant-steps
invariant-steps g l = record {
  clock : IsClock l.next;
  led : leads (node_of l.self) (clock_of l.next) (steps_left l.steps) ≡ leads (node_of l.fn.self) l.fn.first (steps_left l.fn.steps);
}

abbrev pub decreases-steps : goal.decreases-steps
decreases-steps g l = length (steps_left l.steps)
