use Rattle.std.proofs.Common.{◌≡◌, ◌+◌, map, take}
use Rattle.shm_logs.specs.Boxes.Logged.{logged_of}
use Rattle.shm_model.specs.Log.{sent_by}
use Rattle.shm_report.proofs.count_run.add_sent.Given as goal

-- so many before, and what the steps so far sent
abbrev pub invariant-steps : goal.invariant-steps
invariant-steps l = l.total ≡ l.before + sent_by (take l.step-index (map logged_of l.steps))
