use Rattle.std.proofs.Common.{◌≡◌, take}
use Rattle.shm_model.specs.Merge.{events_in}
use Rattle.shm_logs.specs.Auditing.Logs.{logs_of}
use Rattle.shm_logs.specs.Auditing.Order.{order_of}
use Rattle.shm_logs.proofs.log_audit.events_from_steps.events.Given as goal

abbrev pub invariant-names : goal.invariant-names
invariant-names g l = l.events.items ≡ take l.name-index (events_in (order_of (logs_of l.logs) l.order))
