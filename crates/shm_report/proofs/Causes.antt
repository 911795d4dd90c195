-- A report's fault tells what is wrong with the reader's bytes.
use Rattle.std.proofs.Common.{◌≡◌, ◌≢◌, ◌⊎◌, ◌<◌, ◌+◌, inl, inr, ℕ, List, Option, None, Some, Result, Err, Ok, IfErr, IfSome, false, true, length, min, take, arith, refl, subst, sym, ◌∙◌}
use Rattle.shm_lines.specs.Limits.{max_bytes}
use Rattle.shm_lines.specs.Workload.{workload_of, Whole}
use Rattle.shm_lines.specs.declared.workload_error.WorkloadFault.{WorkloadFault}
use Rattle.shm_lines.specs.declared.workload_error.WorkloadFault.TheVariants as workload
use Rattle.shm_logs.specs.Auditing.Callers.{callers_of}
use Rattle.shm_logs.specs.Auditing.Complete.{IsFirstCauseOfAll}
use Rattle.shm_logs.specs.Auditing.Logs.{logs_of, AreLogsOf}
use Rattle.shm_report.specs.Callers.{AllServed}
use Rattle.shm_report.specs.Causes.{audit_cause, ends_writing, fault_of_access, fault_of_run, given_up, input_cause, is_after_reading, IsFound, IsLineIn, IsLineOf, IsUnmatchedIn, IsWrongBy, TellsOfRun}
use Rattle.shm_report.specs.RunFaults.{NamesAccess, TellsOfLogs}
use Rattle.shm_report.specs.declared.refused_run.Refused.{Refused}
use Rattle.shm_report.specs.declared.workload_outcome.Ran.{Ran}
use Rattle.shm_report.specs.declared.report_error.ReportFault.{ReportFault}
use Rattle.shm_report.specs.declared.report_error.ReportFault.TheVariants as report
use Rattle.shm_report.specs.declared.call_and_run_error.RunFault.{RunFault}
use Rattle.shm_report.specs.declared.call_and_run_error.RunFault.TheVariants as run
use Rattle.shm_sites.specs.declared.cluster.client_error.ClientFault.{ClientFault}
use Rattle.shm_sites.specs.declared.cluster.client_error.ClientFault.TheVariants as client
use Rattle.shm_sites.specs.declared.cluster.start_error.StartFault.TheVariants as start
use Rattle.shm_report.proofs.CutInput.{whole_fault}

of_none : {A : Type 0} (o : Option A) (P : A → Type 0) → o ≡ None → IfSome o P
of_none None P none = tt
of_none (Some x) P none = absurd (cc)

of_some : {A : Type 0} (o : Option A) (x : A) (P : A → Type 0) → o ≡ Some x → P x → IfSome o P
of_some o x P some holds = subst (λ o. IfSome o P) (sym some) holds

is_wrong : (sites : ℕ) (known : Option (List ℕ)) (bytes : List ℕ) (found : WorkloadFault) (told : ReportFault)
    → IfSome known (λ all. bytes ≡ take max_bytes all) → (found ≢ workload.OutOfMemory → input_cause told ≡ Some found)
    → found ≢ workload.OutOfMemory → workload_of sites bytes ≡ Err found → IfSome (input_cause told) (IsWrongBy sites known)
is_wrong sites known bytes found told front cause other is =
    of_some (input_cause told) found (IsWrongBy sites known) (cause other) (whole_fault sites known bytes found front is)

-- what is wrong with a front of the reader's bytes is told of all of them
pub input_told : (sites : ℕ) (known : Option (List ℕ)) (bytes : List ℕ) (found : WorkloadFault) (told : ReportFault)
    → IfSome known (λ all. bytes ≡ take max_bytes all) → (found ≡ workload.OutOfMemory → input_cause told ≡ None)
    → (found ≢ workload.OutOfMemory → input_cause told ≡ Some found) → (found ≡ workload.OutOfMemory) ⊎ (workload_of sites bytes ≡ Err found)
    → IfSome (input_cause told) (IsWrongBy sites known)
input_told sites known bytes found told front memory cause (inl is) = of_none (input_cause told) (IsWrongBy sites known) (memory is)
input_told sites known bytes workload.OutOfMemory told front memory cause (inr is) = of_none (input_cause told) (IsWrongBy sites known) (memory refl)
input_told sites known bytes (workload.BadLine number) told front memory cause (inr is) =
    is_wrong sites known bytes (workload.BadLine number) told front cause (λ e. absurd (cc)) is
input_told sites known bytes (workload.LineTooLong number) told front memory cause (inr is) =
    is_wrong sites known bytes (workload.LineTooLong number) told front cause (λ e. absurd (cc)) is
input_told sites known bytes workload.TooManyLines told front memory cause (inr is) =
    is_wrong sites known bytes workload.TooManyLines told front cause (λ e. absurd (cc)) is

-- no access was given up before the workload was read
pub unread_none : (fault : ReportFault) (P : ℕ → Type 0) → is_after_reading fault ≡ false → IfSome (given_up fault) P
unread_none (report.GaveUp number) P unread = absurd (cc)
unread_none (report.BadLine number) P unread = tt
unread_none (report.LineTooLong number) P unread = tt
unread_none report.TooManyLines P unread = tt
unread_none report.OutOfMemory P unread = tt
unread_none report.ReadFault P unread = tt
unread_none report.WriteFault P unread = tt
unread_none report.NoThread P unread = tt
unread_none report.ClockEnd P unread = tt
unread_none report.Logs P unread = tt
unread_none (report.Audit cause) P unread = tt

-- or while a report was written
pub ending_none : (fault : ReportFault) (P : ℕ → Type 0) → ends_writing fault ≡ true → IfSome (given_up fault) P
ending_none (report.GaveUp number) P ending = absurd (cc)
ending_none (report.BadLine number) P ending = tt
ending_none (report.LineTooLong number) P ending = tt
ending_none report.TooManyLines P ending = tt
ending_none report.OutOfMemory P ending = tt
ending_none report.ReadFault P ending = tt
ending_none report.WriteFault P ending = tt
ending_none report.NoThread P ending = tt
ending_none report.ClockEnd P ending = tt
ending_none report.Logs P ending = tt
ending_none (report.Audit cause) P ending = tt

at_line : (count place : ℕ) → place < count → IsLineOf count (min (place + 2) 18446744073709551615)
at_line count place named = (omega arith, omega arith)

access_line : (count place : ℕ) (fault : ClientFault) → place < count → IfSome (given_up (fault_of_access place fault)) (IsLineOf count)
access_line count place client.GaveUp named = at_line count place named
access_line count place client.OutOfMemory named = tt
access_line count place client.ClockEnd named = tt

-- an access that a run gave up is one of its workload's
run_line : (count : ℕ) (fault : RunFault) → NamesAccess count fault → IfSome (given_up (fault_of_run fault)) (IsLineOf count)
run_line count (run.Call call) named = access_line count call.place call.fault named
run_line count (run.Start start.OutOfMemory) named = tt
run_line count (run.Start start.NoThread) named = tt
run_line count run.OutOfMemory named = tt
run_line count run.Logs named = tt

line_in : (sites : ℕ) (known : Option (List ℕ)) (whole : Whole) (line : Option ℕ) → IfSome known (λ bytes. workload_of sites bytes ≡ Ok whole)
    → IfSome line (IsLineOf (length whole.accesses)) → IfSome line (IsLineIn sites known)
line_in sites known whole None read holds = tt
line_in sites None whole (Some line) read holds = tt
line_in sites (Some bytes) whole (Some line) read holds = (whole, read, holds)

-- and so one of the workload that was read
pub run_line_in : (sites : ℕ) (known : Option (List ℕ)) (whole : Whole) (fault : RunFault) (told : ReportFault)
    → IfSome known (λ bytes. workload_of sites bytes ≡ Ok whole) → NamesAccess (length whole.accesses) fault → told ≡ fault_of_run fault
    → IfSome (given_up told) (IsLineIn sites known)
run_line_in sites known whole fault told read named is =
    line_in sites known whole (given_up told) read
    (subst (λ told. IfSome (given_up told) (IsLineOf (length whole.accesses))) (sym is) (run_line (length whole.accesses) fault named))

-- nothing was run before the workload was read
pub unread_tells : (sites : ℕ) (known : Option (List ℕ)) (fault : ReportFault) (told : Option Ran) → is_after_reading fault ≡ false
    → TellsOfRun sites known fault told
unread_tells sites known (report.Audit cause) told unread = absurd (cc)
unread_tells sites known report.Logs told unread = absurd (cc)
unread_tells sites known (report.GaveUp number) told unread = tt
unread_tells sites known (report.BadLine number) told unread = tt
unread_tells sites known (report.LineTooLong number) told unread = tt
unread_tells sites known report.TooManyLines told unread = tt
unread_tells sites known report.OutOfMemory told unread = tt
unread_tells sites known report.ReadFault told unread = tt
unread_tells sites known report.WriteFault told unread = tt
unread_tells sites known report.NoThread told unread = tt
unread_tells sites known report.ClockEnd told unread = tt

call_tells : (sites : ℕ) (known : Option (List ℕ)) (place : ℕ) (fault : ClientFault) (told : Option Ran) → TellsOfRun sites known (fault_of_access place fault) told
call_tells sites known place client.OutOfMemory told = tt
call_tells sites known place client.GaveUp told = tt
call_tells sites known place client.ClockEnd told = tt

run_tells : (sites : ℕ) (known : Option (List ℕ)) (whole : Whole) (fault : RunFault) (told : Option Ran)
    → IfSome known (λ bytes. workload_of sites bytes ≡ Ok whole) → TellsOfLogs sites whole.size whole.accesses fault told
    → TellsOfRun sites known (fault_of_run fault) told
run_tells sites known whole run.Logs told read tells = (tells.0, tells.1, record { workload = whole; read = read; came = tells.2 })
run_tells sites known whole (run.Start start.OutOfMemory) told read tells = tt
run_tells sites known whole (run.Start start.NoThread) told read tells = tt
run_tells sites known whole (run.Call call) told read tells = call_tells sites known call.place call.fault told
run_tells sites known whole run.OutOfMemory told read tells = tt

-- other logs are those of the run of the workload that was read
pub run_told_of : (sites : ℕ) (known : Option (List ℕ)) (whole : Whole) (fault : RunFault) (told : ReportFault) (ran had : Option Ran)
    → IfSome known (λ bytes. workload_of sites bytes ≡ Ok whole) → TellsOfLogs sites whole.size whole.accesses fault had → told ≡ fault_of_run fault
    → ran ≡ had → TellsOfRun sites known told ran
run_told_of sites known whole fault told ran had read tells same kept =
    subst (λ told. TellsOfRun sites known told ran) (sym same)
    (subst (TellsOfRun sites known (fault_of_run fault)) (sym kept) (run_tells sites known whole fault had read tells))

-- a cause that an audit found is that of the run of the workload that was read
audit_tells : (sites : ℕ) (known : Option (List ℕ)) (whole : Whole) (ran : Ran) (fault : ReportFault)
    → IfSome known (λ bytes. workload_of sites bytes ≡ Ok whole) → AllServed sites whole.accesses ran.callers.items
    → AreLogsOf sites whole.size ran.logs.items
    → IfSome (audit_cause fault) (IsFirstCauseOfAll (logs_of ran.logs.items) (callers_of ran.callers.items)) → fault ≢ report.Logs
    → TellsOfRun sites known fault (Some ran)
audit_tells sites known whole ran (report.Audit cause) read served logs first other =
    (ran, refl, record { workload = whole; read = read; served = served; logs = logs; first = first })
audit_tells sites known whole ran report.Logs read served logs first other = absurd (other refl)
audit_tells sites known whole ran (report.GaveUp number) read served logs first other = tt
audit_tells sites known whole ran (report.BadLine number) read served logs first other = tt
audit_tells sites known whole ran (report.LineTooLong number) read served logs first other = tt
audit_tells sites known whole ran report.TooManyLines read served logs first other = tt
audit_tells sites known whole ran report.OutOfMemory read served logs first other = tt
audit_tells sites known whole ran report.ReadFault read served logs first other = tt
audit_tells sites known whole ran report.WriteFault read served logs first other = tt
audit_tells sites known whole ran report.NoThread read served logs first other = tt
audit_tells sites known whole ran report.ClockEnd read served logs first other = tt

pub audit_told_of : {X : Type 0} (r : Result X (Refused ReportFault)) (sites : ℕ) (known : Option (List ℕ)) (whole : Whole) (ran : Ran)
    → IfSome known (λ bytes. workload_of sites bytes ≡ Ok whole) → AllServed sites whole.accesses ran.callers.items
    → AreLogsOf sites whole.size ran.logs.items
    → IfErr r (λ refused. IfSome (audit_cause refused.fault) (IsFirstCauseOfAll (logs_of ran.logs.items) (callers_of ran.callers.items)))
    → IfErr r (λ refused. refused.fault ≢ report.Logs) → IfErr r (λ refused. refused.ran ≡ Some ran)
    → IfErr r (λ refused. TellsOfRun sites known refused.fault refused.ran)
audit_told_of (Ok run) sites known whole ran read served logs first other is = tt
audit_told_of (Err refused) sites known whole ran read served logs first other is =
    subst (TellsOfRun sites known refused.fault) (sym is) (audit_tells sites known whole ran refused.fault read served logs first other)

-- what tells of a run tells of some run
found_by : (sites : ℕ) (known : Option (List ℕ)) (fault : ReportFault) (told : Option Ran) → TellsOfRun sites known fault told
    → IfSome (audit_cause fault) (IsFound sites known)
found_by sites known (report.Audit cause) told tells = (tells.0, tells.2)
found_by sites known report.Logs told tells = tt
found_by sites known (report.GaveUp number) told tells = tt
found_by sites known (report.BadLine number) told tells = tt
found_by sites known (report.LineTooLong number) told tells = tt
found_by sites known report.TooManyLines told tells = tt
found_by sites known report.OutOfMemory told tells = tt
found_by sites known report.ReadFault told tells = tt
found_by sites known report.WriteFault told tells = tt
found_by sites known report.NoThread told tells = tt
found_by sites known report.ClockEnd told tells = tt

pub found_of : {X : Type 0} (r : Result X (Refused ReportFault)) (sites : ℕ) (known : Option (List ℕ))
    → IfErr r (λ refused. TellsOfRun sites known refused.fault refused.ran) → IfErr r (λ refused. IfSome (audit_cause refused.fault) (IsFound sites known))
found_of (Ok run) sites known tells = tt
found_of (Err refused) sites known tells = found_by sites known refused.fault refused.ran tells

pub unmatched_of : (sites : ℕ) (known : Option (List ℕ)) (fault : ReportFault) (told : Option Ran) → TellsOfRun sites known fault told
    → fault ≡ report.Logs → IsUnmatchedIn sites known
unmatched_of sites known fault told tells is =
    let of : TellsOfRun sites known report.Logs told = subst (λ fault. TellsOfRun sites known fault told) is tells in
    (of.0, of.2)
