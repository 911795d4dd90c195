use Rattle.std.proofs.Common.{◌≡◌, length}
use Rattle.shm_logs.specs.Boxes.SiteBox.{box_of}
use Rattle.shm_process.specs.StepsOf.{steps_left}
use Rattle.shm_process.proofs.ManySteps.{IsClock, clock_of}
use Rattle.shm_audit.proofs.Entering.{leads}
use Rattle.shm_audit.proofs.box_replay.enter_steps.Given as goal

-- the steps to come lead to where all led
abbrev pub invariant-steps : goal.invariant-steps
invariant-steps g l = record {
  clock : IsClock l.next;
  led : leads (box_of l.site_box) (clock_of l.next) (steps_left l.steps) ≡ leads (box_of l.fn.site_box) l.fn.first (steps_left l.fn.steps);
}

abbrev pub decreases-steps : goal.decreases-steps
decreases-steps g l = length (steps_left l.steps)
