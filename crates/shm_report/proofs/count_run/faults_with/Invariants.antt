use Rattle.std.proofs.Common.{◌≡◌, ◌+◌, map, take}
use Rattle.shm_logs.specs.Boxes.Logged.{logged_of}
use Rattle.shm_report.specs.Counts.{faults_of}
use Rattle.shm_report.proofs.count_run.faults_with.Given as goal

-- so many before, and the faults of the steps so far
abbrev pub invariant-steps : goal.invariant-steps
invariant-steps l = l.total ≡ l.before + faults_of (take l.step-index (map logged_of l.steps))
