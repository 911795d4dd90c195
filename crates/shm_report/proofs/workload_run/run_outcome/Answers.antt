-- No caller ended by a fault, so each was told all receipts; or the first fault is told.
use Rattle.std.proofs.Common.{◌≡◌, None, IfErr, IfOk, subst, sym, vec_len}
use Rattle.shm_report.specs.Callers.{ServedUnlessEnded}
use Rattle.shm_report.specs.RunFaults.{NoneFailed, TellsFirst}
use Rattle.shm_report.proofs.Served.{all_served, matched_callers, names_access, none_failed, others_tell, unmatched_first, unmatched_logs}
use Rattle.shm_report.proofs.workload_run.run_outcome.Goals as goal

pub returns-in-Ok-logs-clause-callers : goal.returns-in-Ok-logs-clause-callers
returns-in-Ok-logs-clause-callers c sites accesses served =
    matched_callers c.if_matching.result (record { callers = c.in-Ok-receipts.callers; logs = c.in-Ok-logs.logs }) sites accesses c.if_matching.ensures.same
    (all_served sites accesses c.in-Ok.told.items c.in-Ok-receipts.callers.items
    (subst (λ told. IfOk told (λ told. ServedUnlessEnded sites accesses told.items)) c.in-Ok.is served) c.in-Ok-receipts.ensures.all)

pub returns-in-Err-receipts-clause-unmatched : goal.returns-in-Err-receipts-clause-unmatched
returns-in-Err-receipts-clause-unmatched c accesses served counted =
    others_tell c.args.sites c.args.pages accesses c.in-Err-receipts.fault None c.in-Err-receipts.ensures.unmatched

pub returns-in-Err-receipts-clause-place : goal.returns-in-Err-receipts-clause-place
returns-in-Err-receipts-clause-place c count accesses served =
    names_access count accesses c.in-Ok.told.items c.in-Err-receipts.fault
    (subst (λ told. IfOk told (λ told. ServedUnlessEnded count accesses told.items)) c.in-Ok.is served) c.in-Err-receipts.ensures.first

pub returns-in-Err-logs-clause-first : goal.returns-in-Err-logs-clause-first
returns-in-Err-logs-clause-first c =
    subst (λ told. IfOk told (λ told. NoneFailed told.items)) (sym c.in-Ok.is)
    (none_failed c.in-Ok.told.items c.in-Ok-receipts.callers.items c.in-Ok-receipts.ensures.all)

pub returns-in-Ok-logs-clause-first : goal.returns-in-Ok-logs-clause-first
returns-in-Ok-logs-clause-first c =
    subst (λ told. IfOk told (λ told. IfErr c.if_matching.result (λ refused. TellsFirst told.items refused.fault))) (sym c.in-Ok.is)
    (unmatched_first _ c.if_matching.result c.in-Ok.told.items (record { callers = c.in-Ok-receipts.callers; logs = c.in-Ok-logs.logs })
    c.if_matching.ensures.fault
    (none_failed c.in-Ok.told.items c.in-Ok-receipts.callers.items c.in-Ok-receipts.ensures.all))

pub returns-in-Ok-logs-clause-unmatched : goal.returns-in-Ok-logs-clause-unmatched
returns-in-Ok-logs-clause-unmatched c accesses served counted =
    unmatched_logs c.if_matching.result (record { callers = c.in-Ok-receipts.callers; logs = c.in-Ok-logs.logs }) c.args.sites c.args.pages accesses
    c.if_matching.ensures.fault
    (all_served c.args.sites accesses c.in-Ok.told.items c.in-Ok-receipts.callers.items
    (subst (λ told. IfOk told (λ told. ServedUnlessEnded c.args.sites accesses told.items)) c.in-Ok.is served) c.in-Ok-receipts.ensures.all)
    (subst (λ logs. IfOk logs (λ logs. vec_len logs ≡ c.args.sites)) c.in-Ok-logs.is counted)
