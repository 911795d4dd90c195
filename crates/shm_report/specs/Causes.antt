-- Why nothing was reported, where the workload is wrong or an audit found a cause.
use Rattle.std.specs.Prelude.{⊤, ◌≡◌, ◌≤◌, ℕ, ◌+◌, Bool, true, false, List, length, min, IfSome, Err, Ok, Option, None, Some}
use Rattle.shm_logs.specs.Auditing.Callers.{callers_of}
use Rattle.shm_logs.specs.Auditing.Complete.{IsFirstCauseOfAll}
use Rattle.shm_logs.specs.Auditing.Logs.{logs_of, AreLogsOf}
use Rattle.shm_logs.specs.declared.log_audit.audit_error.AuditFault.{AuditFault}
use Rattle.shm_sites.specs.declared.cluster.client_error.ClientFault.{ClientFault}
use Rattle.shm_sites.specs.declared.cluster.client_error.ClientFault.TheVariants as client
use Rattle.shm_sites.specs.declared.cluster.start_error.StartFault.TheVariants as start
use Rattle.shm_report.specs.Callers.{AllServed}
use Rattle.shm_report.specs.RunFaults.{CameUnmatched}
use Rattle.shm_report.specs.declared.call_and_run_error.RunFault.{RunFault}
use Rattle.shm_report.specs.declared.call_and_run_error.RunFault.TheVariants as run
use Rattle.shm_lines.specs.Workload.{Whole, workload_of}
use Rattle.shm_lines.specs.declared.workload_error.WorkloadFault.{WorkloadFault}
use Rattle.shm_lines.specs.declared.workload_error.WorkloadFault.TheVariants as workload
use Rattle.shm_report.specs.declared.report_error.ReportFault.{ReportFault}
use Rattle.shm_report.specs.declared.report_error.ReportFault.TheVariants as report
use Rattle.shm_report.specs.declared.workload_outcome.Ran.{Ran}

-- what is wrong with the workload
abbrev pub input_cause : ReportFault → Option WorkloadFault
input_cause (report.BadLine number) = Some (workload.BadLine number)
input_cause (report.LineTooLong number) = Some (workload.LineTooLong number)
input_cause report.TooManyLines = Some workload.TooManyLines
input_cause report.OutOfMemory = None
input_cause report.ReadFault = None
input_cause report.WriteFault = None
input_cause report.NoThread = None
input_cause (report.GaveUp number) = None
input_cause report.ClockEnd = None
input_cause report.Logs = None
input_cause (report.Audit cause) = None

-- what an audit found
abbrev pub audit_cause : ReportFault → Option AuditFault
audit_cause (report.BadLine number) = None
audit_cause (report.LineTooLong number) = None
audit_cause report.TooManyLines = None
audit_cause report.OutOfMemory = None
audit_cause report.ReadFault = None
audit_cause report.WriteFault = None
audit_cause report.NoThread = None
audit_cause (report.GaveUp number) = None
audit_cause report.ClockEnd = None
audit_cause report.Logs = None
audit_cause (report.Audit cause) = Some cause

-- why the access of this place in the workload was not made; the first access is that of line 2
abbrev pub fault_of_access : ℕ → ClientFault → ReportFault
fault_of_access place client.OutOfMemory = report.OutOfMemory
fault_of_access place client.GaveUp = report.GaveUp (min (place + 2) 18446744073709551615)
fault_of_access place client.ClockEnd = report.ClockEnd

-- why the workload was not run to its end
abbrev pub fault_of_run : RunFault → ReportFault
fault_of_run (run.Start start.OutOfMemory) = report.OutOfMemory
fault_of_run (run.Start start.NoThread) = report.NoThread
fault_of_run (run.Call call) = fault_of_access call.place call.fault
fault_of_run run.OutOfMemory = report.OutOfMemory
fault_of_run run.Logs = report.Logs

-- the line of the access that was given up
abbrev pub given_up : ReportFault → Option ℕ
given_up (report.GaveUp number) = Some number
given_up (report.BadLine number) = None
given_up (report.LineTooLong number) = None
given_up report.TooManyLines = None
given_up report.OutOfMemory = None
given_up report.ReadFault = None
given_up report.WriteFault = None
given_up report.NoThread = None
given_up report.ClockEnd = None
given_up report.Logs = None
given_up (report.Audit cause) = None

-- The writing of a report ends so: by memory, by the writer, or since a line has no receipt, as it has in a run that an audit accepted.
abbrev pub ends_writing : ReportFault → Bool
ends_writing report.OutOfMemory = true
ends_writing report.WriteFault = true
ends_writing report.Logs = true
ends_writing (report.BadLine number) = false
ends_writing (report.LineTooLong number) = false
ends_writing report.TooManyLines = false
ends_writing report.ReadFault = false
ends_writing report.NoThread = false
ends_writing (report.GaveUp number) = false
ends_writing report.ClockEnd = false
ends_writing (report.Audit cause) = false

-- neither the workload nor an audit is to blame
pub record IsOther (fault : ReportFault) : Type 0 where
  pub input : input_cause fault ≡ None
  pub audit : audit_cause fault ≡ None

-- the workload was read before
abbrev pub is_after_reading : ReportFault → Bool
is_after_reading (report.BadLine number) = false
is_after_reading (report.LineTooLong number) = false
is_after_reading report.TooManyLines = false
is_after_reading report.OutOfMemory = false
is_after_reading report.ReadFault = false
is_after_reading report.WriteFault = true
is_after_reading report.NoThread = true
is_after_reading (report.GaveUp number) = true
is_after_reading report.ClockEnd = true
is_after_reading report.Logs = true
is_after_reading (report.Audit cause) = true

-- these bytes, where they are known, are a workload for so many sites
abbrev pub IsRight : ℕ → Option (List ℕ) → Type 0
IsRight sites known = IfSome known (λ bytes. (whole : Whole) × (workload_of sites bytes ≡ Ok whole))

-- an access of so many stands on this line; the first is that of line 2
abbrev pub IsLineOf : ℕ → ℕ → Type 0
IsLineOf count line = (2 ≤ line) × (line ≤ count + 1)

-- so of the workload that these bytes have, where they are known
abbrev pub IsLineIn : ℕ → Option (List ℕ) → ℕ → Type 0
IsLineIn sites known line = IfSome known (λ bytes. (whole : Whole) × (workload_of sites bytes ≡ Ok whole) × IsLineOf (length whole.accesses) line)

-- these bytes, where they are known, are no workload for so many sites, for this cause
abbrev pub IsWrongBy : ℕ → Option (List ℕ) → WorkloadFault → Type 0
IsWrongBy sites known cause = IfSome known (λ bytes. workload_of sites bytes ≡ Err cause)

-- After this run of the workload that these bytes have, where they are known, over so many sites: each caller was told a receipt for each
-- of its site's lines, the logs are the sites', and this is the first cause why these very receipts and logs can't be those of sites that ran.
pub record IsFoundIn (sites : ℕ) (bytes : Option (List ℕ)) (ran : Ran) (cause : AuditFault) : Type 0 where
  pub workload : Whole
  pub read : IfSome bytes (λ bytes. workload_of sites bytes ≡ Ok workload)
  pub served : AllServed sites workload.accesses ran.callers.items
  pub logs : AreLogsOf sites workload.size ran.logs.items
  pub first : IsFirstCauseOfAll (logs_of ran.logs.items) (callers_of ran.callers.items) cause

-- so it is after some run
abbrev pub IsFound : ℕ → Option (List ℕ) → AuditFault → Type 0
IsFound sites bytes cause = (ran : Ran) × IsFoundIn sites bytes ran cause

-- After this run of the workload that these bytes have, where they are known, the logs that came back aren't those of so many sites.
pub record HasOtherLogs (sites : ℕ) (bytes : Option (List ℕ)) (ran : Ran) : Type 0 where
  pub workload : Whole
  pub read : IfSome bytes (λ bytes. workload_of sites bytes ≡ Ok workload)
  pub came : CameUnmatched sites workload.size workload.accesses ran

-- so they aren't after some run
abbrev pub IsUnmatchedIn : ℕ → Option (List ℕ) → Type 0
IsUnmatchedIn sites bytes = (ran : Ran) × HasOtherLogs sites bytes ran

-- a fault of the logs or of the audit comes with what was run, and tells of its very receipts and logs
abbrev pub TellsOfRun : ℕ → Option (List ℕ) → ReportFault → Option Ran → Type 0
TellsOfRun sites bytes (report.Audit cause) told = (ran : Ran) × (told ≡ Some ran) × IsFoundIn sites bytes ran cause
TellsOfRun sites bytes report.Logs told = (ran : Ran) × (told ≡ Some ran) × HasOtherLogs sites bytes ran
TellsOfRun sites bytes _ told = ⊤
