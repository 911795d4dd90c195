-- The first fault of the callers so far.
use Rattle.std.proofs.Common.{take}
use Rattle.shm_report.specs.RunFaults.{FirstIfAny}
use Rattle.shm_report.proofs.workload_run.first_fault.Given as goal

abbrev pub invariant-callers : goal.invariant-callers
invariant-callers l = FirstIfAny (take l.caller-index l.told) l.first
