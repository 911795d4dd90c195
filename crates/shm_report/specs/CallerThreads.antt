-- The threads of callers.
use Rattle.std.specs.Prelude.{◌≡◌, ℕ, ◌<◌, List, Result, Vec, length, slice_index_or}
use Rattle.std.specs.declared.alloc.Global.{Global}
use Rattle.std.specs.declared.thread.PromisedHandle.{PromisedHandle}
use Rattle.shm_logs.specs.declared.site_boxes.receipt.Receipt.{Receipt}
use Rattle.shm_lines.specs.declared.workload_access.WorkloadAccess.{WorkloadAccess}
use Rattle.shm_report.specs.declared.caller_threads.Caller.{Caller}
use Rattle.shm_report.specs.declared.call_and_run_error.CallFault.{CallFault}

-- the caller of this site, for its part of these accesses
pub record IsCaller (accesses : List WorkloadAccess) (site : ℕ) (caller : Caller) : Type 0 where
  pub own : caller.site ≡ site
  pub given : caller.accesses.now ≡ accesses

-- it tells what its caller was told
abbrev pub CallerThread : Type 0
CallerThread = PromisedHandle (Result (Vec Receipt Global) CallFault) Caller

-- each of these threads is that of the caller of the site of its place
abbrev pub AreCallers : List WorkloadAccess → List CallerThread → Type 0
AreCallers accesses threads = (site : ℕ) (default : CallerThread) → site < length threads → IsCaller accesses site (slice_index_or threads site default).promise
