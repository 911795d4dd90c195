use Rattle.std.proofs.Common.{◌≡◌, ◌+◌, map, take}
use Rattle.shm_logs.specs.Boxes.Logged.{logged_of}
use Rattle.shm_model.specs.Log.{sent_by}
use Rattle.shm_logs.proofs.log_audit.check_same_sites.left_after.Given as goal

abbrev pub invariant-steps : goal.invariant-steps
invariant-steps g l = l.left + sent_by (take l.step-index (map logged_of l.steps)) ≡ l.numbers
