use Rattle.std.proofs.Common.{◌≡◌, map, take}
use Rattle.shm_logs.specs.Boxes.Logged.{logged_of}
use Rattle.shm_audit.specs.Totals.{with_log}
use Rattle.shm_audit.proofs.count_totals.count_steps.Given as goal

-- what was counted before, and the steps so far
abbrev pub invariant-steps : goal.invariant-steps
invariant-steps g l = l.counts ≡ with_log l.fn.before (take l.step-index (map logged_of l.steps))
