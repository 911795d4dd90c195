-- What callers were told, where none of them ended by a fault.
use Rattle.std.proofs.Common.{◌≡◌, ◌≢◌, ◌∙◌, ℕ, zero, suc, ◌<◌, List, [], ◌∷◌, Result, Ok, Err, IfErr, IfOk, Option, Some, length, map, get_or, slice_get, ap, refl, sym, subst, rules, vec_len}
use Rattle.std.proofs.lemmas.Option.{get_or_from_slice_get, none-some, slice_get_within}
use Rattle.std.proofs.Math.ListN.{length-map, get_or-map}
use Rattle.std.specs.Prelude.{Vec}
use Rattle.shm_logs.specs.declared.site_boxes.receipt.Receipt.{Receipt}
use Rattle.shm_lines.specs.declared.workload_access.WorkloadAccess.{WorkloadAccess}
use Rattle.shm_report.specs.Callers.{AllServed, ServedUnlessEnded, ServesAll}
use Rattle.shm_logs.specs.Auditing.Logs.{AreLogsOf}
use Rattle.shm_report.specs.RunFaults.{NamesAccess, NoneFailed, TellsFirst, TellsOfLogs}
use Rattle.shm_report.specs.declared.refused_run.Refused.{Refused}
use Rattle.shm_report.specs.declared.workload_outcome.Ran.{Ran}
use Rattle.shm_report.specs.declared.call_and_run_error.CallFault.{CallFault}
use Rattle.shm_report.specs.declared.call_and_run_error.RunFault.{RunFault}
use Rattle.shm_report.specs.declared.call_and_run_error.RunFault.TheVariants as run

pub all_served : {A : Type 0} (sites : ℕ) (accesses : List WorkloadAccess) (told : List (Result (Vec Receipt A) CallFault)) (callers : List (Vec Receipt A))
    → ServedUnlessEnded sites accesses told → told ≡ map Ok callers → AllServed sites accesses callers
all_served {A} sites accesses told callers served all = record {
  count = sym (length-map callers Ok) ∙ ap length (sym all) ∙ served.count;
  each = λ site default below.
      let P : Result (Vec Receipt A) CallFault → Type 0 = λ one. IfOk one (λ receipts. ServesAll site accesses receipts.items) in
      subst P (ap (λ all. get_or all site (Ok default)) all ∙ get_or-map Ok callers site default) (served.each site (Ok default) below);
}

-- the first fault names one of the accesses
pub names_access : {A : Type 0} (sites : ℕ) (accesses : List WorkloadAccess) (told : List (Result (Vec Receipt A) CallFault)) (fault : RunFault)
    → ServedUnlessEnded sites accesses told → TellsFirst told fault → NamesAccess (length accesses) fault
names_access {A} sites accesses told (run.Call call) served first =
    let P : Result (Vec Receipt A) CallFault → Type 0 = λ one. IfErr one (λ fault. fault.place < length accesses) in
    let below : first.site < sites = subst (λ n. first.site < n) served.count (slice_get_within told first.site (Err call) first.own) in
    subst P (get_or_from_slice_get told first.site (Err call) (Err call) first.own) (served.place first.site (Err call) below)
names_access sites accesses told (run.Start fault) served first = tt
names_access sites accesses told run.OutOfMemory served first = tt
names_access sites accesses told run.Logs served first = tt

no_fault : {X : Type 0} (callers : List X) (site : ℕ) (fault : CallFault) → slice_get (map Ok callers) site ≡ Some (Err fault) → ⊥
no_fault [] site fault at = none-some (Err fault) at
no_fault (x ∷ callers) zero fault at = absurd (let ok_is_err : Some (Ok x) ≡ Some (Err fault) = at in cc)
no_fault (x ∷ callers) (suc site) fault at = no_fault callers site fault at

-- where each caller came to its end, none ended by a fault
pub none_failed : {X : Type 0} (told : List (Result X CallFault)) (callers : List X) → told ≡ map Ok callers → NoneFailed told
none_failed told callers all = subst NoneFailed (sym all) (no_fault callers)

-- what is told of logs that don't match is told where no caller ended by a fault
pub unmatched_first : {X Y : Type 0} (N : Type 0) (r : Result Y (Refused RunFault)) (told : List (Result X CallFault)) (ran : Ran)
    → IfErr r (λ refused. (refused ≡ record { fault = run.Logs; ran = Some ran }) × N)
    → NoneFailed told → IfErr r (λ refused. TellsFirst told refused.fault)
unmatched_first N (Ok matched) told ran fault none = tt
unmatched_first {X} N (Err found) told ran fault none =
    subst (λ (refused : Refused RunFault). TellsFirst {X = X} told refused.fault) (sym fault.0) none

-- the callers of what matched are those of what was run
pub matched_callers : (r : Result Ran (Refused RunFault)) (ran : Ran) (sites : ℕ) (accesses : List WorkloadAccess) → IfOk r (λ matched. matched ≡ ran)
    → AllServed sites accesses ran.callers.items → IfOk r (λ ran. AllServed sites accesses ran.callers.items)
matched_callers (Ok matched) ran sites accesses same served = subst (λ (r : Ran). AllServed sites accesses r.callers.items) (sym same) served
matched_callers (Err found) ran sites accesses same served = tt

-- the logs that came back were as many as there are sites, and don't match
pub unmatched_logs : (r : Result Ran (Refused RunFault)) (ran : Ran) (sites pages : ℕ) (accesses : List WorkloadAccess)
    → IfErr r (λ refused. (refused ≡ record { fault = run.Logs; ran = Some ran }) × (¬ AreLogsOf sites pages ran.logs.items))
    → AllServed sites accesses ran.callers.items → vec_len ran.logs ≡ sites → IfErr r (λ refused. TellsOfLogs sites pages accesses refused.fault refused.ran)
unmatched_logs (Ok matched) ran sites pages accesses found served counted = tt
unmatched_logs (Err refused) ran sites pages accesses found served counted =
    let whole : vec_len ran.logs ≡ length ran.logs.items = search rules in
    subst (λ (refused : Refused RunFault). TellsOfLogs sites pages accesses refused.fault refused.ran) (sym found.0)
    (ran, refl, record { served = served; count = sym whole ∙ counted; unmatched = found.1 })

-- any other fault tells nothing of logs
pub others_tell : (sites pages : ℕ) (accesses : List WorkloadAccess) (fault : RunFault) (told : Option Ran) → fault ≢ run.Logs
    → TellsOfLogs sites pages accesses fault told
others_tell sites pages accesses run.Logs told other = absurd (other refl)
others_tell sites pages accesses (run.Start fault) told other = tt
others_tell sites pages accesses (run.Call call) told other = tt
others_tell sites pages accesses run.OutOfMemory told other = tt
