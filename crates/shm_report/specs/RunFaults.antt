-- Which fault is told where callers ended before their last lines.
use Rattle.std.specs.Prelude.{⊤, ◌≡◌, ℕ, ◌<◌, ◌≤◌, List, Result, Ok, Err, Option, None, Some, if◌then◌else◌, length, nat_lt, slice_get}
use Rattle.shm_logs.specs.Auditing.Logs.{AreLogsOf}
use Rattle.shm_lines.specs.declared.workload_access.WorkloadAccess.{WorkloadAccess}
use Rattle.shm_model.specs.Refusal.{other_logs, out_of_memory}
use Rattle.shm_sites.specs.Cluster.Faults.{client_fault_number, start_fault_number}
use Rattle.shm_report.specs.Callers.{AllServed}
use Rattle.shm_report.specs.declared.call_and_run_error.CallFault.{CallFault}
use Rattle.shm_report.specs.declared.call_and_run_error.RunFault.{RunFault}
use Rattle.shm_report.specs.declared.call_and_run_error.RunFault.TheVariants as run
use Rattle.shm_report.specs.declared.workload_outcome.Ran.{Ran}

-- the fault of an access names one of so many
abbrev pub NamesAccess : ℕ → RunFault → Type 0
NamesAccess count (run.Call call) = call.place < count
NamesAccess count (run.Start fault) = Unit {0}
NamesAccess count run.OutOfMemory = Unit {0}
NamesAccess count run.Logs = Unit {0}

-- why a caller ended, if it did before its last line
abbrev pub fault_of : {X : Type 0} → Result X CallFault → Option CallFault
fault_of (Ok receipts) = None
fault_of (Err fault) = Some fault

-- the one whose line comes first
abbrev pub earlier : Option CallFault → Option CallFault → Option CallFault
earlier None other = other
earlier (Some one) None = Some one
earlier (Some one) (Some other) = if nat_lt other.place one.place then Some other else Some one

-- no caller ended by a fault
abbrev pub NoneFailed : {X : Type 0} → List (Result X CallFault) → Type 0
NoneFailed told = (site : ℕ) (fault : CallFault) → slice_get told site ≡ Some (Err fault) → ⊥

-- a caller ended by this fault, and no caller by one at an earlier line
pub record IsFirstFault {X : Type 0} (told : List (Result X CallFault)) (fault : CallFault) : Type 0 where
  pub site : ℕ
  pub own : slice_get told site ≡ Some (Err fault)
  pub first : (other : ℕ) (later : CallFault) → slice_get told other ≡ Some (Err later) → fault.place ≤ later.place

-- the first fault, where a caller ended by one
abbrev pub FirstIfAny : {X : Type 0} → List (Result X CallFault) → Option CallFault → Type 0
FirstIfAny told None = NoneFailed told
FirstIfAny told (Some fault) = IsFirstFault told fault

-- where callers ended by faults, the first of these is told, and nothing else
abbrev pub TellsFirst : {X : Type 0} → List (Result X CallFault) → RunFault → Type 0
TellsFirst told (run.Call call) = IsFirstFault told call
TellsFirst told (run.Start fault) = NoneFailed told
TellsFirst told run.OutOfMemory = NoneFailed told
TellsFirst told run.Logs = NoneFailed told

-- Each caller was told a receipt for each of its site's lines. But the logs that came back, as many as there are sites, aren't the sites',
-- where segment 0 began with so many pages.
pub record CameUnmatched (sites pages : ℕ) (accesses : List WorkloadAccess) (ran : Ran) : Type 0 where
  pub served : AllServed sites accesses ran.callers.items
  pub count : length ran.logs.items ≡ sites
  pub unmatched : ¬ AreLogsOf sites pages ran.logs.items

-- a fault of other logs comes with what was run, and tells of its very logs
abbrev pub TellsOfLogs : ℕ → ℕ → List WorkloadAccess → RunFault → Option Ran → Type 0
TellsOfLogs sites pages accesses run.Logs told = (ran : Ran) × (told ≡ Some ran) × CameUnmatched sites pages accesses ran
TellsOfLogs sites pages accesses (run.Start fault) told = ⊤
TellsOfLogs sites pages accesses (run.Call call) told = ⊤
TellsOfLogs sites pages accesses run.OutOfMemory told = ⊤

-- the numbers of the causes
abbrev pub run_fault_number : RunFault → ℕ
run_fault_number (run.Start cause) = start_fault_number cause
run_fault_number (run.Call call) = client_fault_number call.fault
run_fault_number run.OutOfMemory = out_of_memory
run_fault_number run.Logs = other_logs
