-- So many callers have told, and the others are those of the sites behind.
use Rattle.std.proofs.Common.{◌≡◌, ℕ, ◌+◌, ◌<◌, ◌≤◌, List, get_or, vec_capacity, vec_len}
use Rattle.std.specs.Vec.Iter.{into_iter_items, into_iter_len}
use Rattle.shm_lines.specs.declared.workload_access.WorkloadAccess.{WorkloadAccess}
use Rattle.shm_report.specs.CallerThreads.{AreCallers, IsCaller}
use Rattle.shm_report.specs.Callers.{ServedUnlessEnded}
use Rattle.shm_report.proofs.caller_threads.join_callers.Given as goal

abbrev pub invariant-callers : goal.invariant-callers
invariant-callers g l =
    let done = vec_len l.told in let rest = l.caller-iterator in
    record {
      count : done + into_iter_len rest ≡ vec_len l.fn.callers;
      room : vec_len l.fn.callers ≤ vec_capacity l.told;
      left : (accesses : List WorkloadAccess) → AreCallers accesses l.fn.callers.items → (k : ℕ) (d : _) → k < into_iter_len rest
          → IsCaller accesses (done + k) (get_or (into_iter_items rest) k d).promise;
      told : (accesses : List WorkloadAccess) → AreCallers accesses l.fn.callers.items → ServedUnlessEnded done accesses l.told.items;
    }
