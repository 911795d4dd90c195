-- The callers so far came to their end, and these are their receipts.
use Rattle.std.proofs.Common.{◌≡◌, Ok, map}
use Rattle.shm_report.proofs.workload_run.gather.Given as goal

abbrev pub invariant-callers : goal.invariant-callers
invariant-callers l = l.yielded ≡ map Ok l.callers.items
