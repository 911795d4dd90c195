-- So many callers run, and there is room for the others.
use Rattle.std.proofs.Common.{◌≡◌, ◌≤◌, vec_capacity, vec_len}
use Rattle.shm_report.specs.CallerThreads.{AreCallers}
use Rattle.shm_report.proofs.caller_threads.start_callers.Given as goal

abbrev pub invariant-sites : goal.invariant-sites
invariant-sites g l = record {
  count : vec_len l.callers ≡ l.number;
  room : l.fn.count ≤ vec_capacity l.callers;
  each : AreCallers l.accesses l.callers.items;
}
