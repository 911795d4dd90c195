-- Each caller's fault names one of the accesses.
use Rattle.std.proofs.Common.{◌≡◌, IfOk, subst, vec_len}
use Rattle.shm_report.specs.Callers.{ServedUnlessEnded}
use Rattle.shm_report.proofs.workload_run.run_workload.Goals as goal

pub returns-clause-place : goal.returns-clause-place
returns-clause-place g c =
    let sites = c.args.sites in
    let accesses = c.args.workload.now.accesses.items in
    c.run_outcome.ensures.place sites accesses
    (subst (λ lines. IfOk c.call-told.result (λ told. ServedUnlessEnded sites lines told.items)) c.as_slice.ensures.value c.call-told.ensures)

pub returns-clause-unmatched : goal.returns-clause-unmatched
returns-clause-unmatched g c =
    let sites = c.args.sites in
    let accesses = c.args.workload.now.accesses.items in
    c.run_outcome.ensures.unmatched accesses
    (subst (λ lines. IfOk c.call-told.result (λ told. ServedUnlessEnded sites lines told.items)) c.as_slice.ensures.value c.call-told.ensures)
    (subst (λ n. IfOk c.stop-logs.result (λ logs. vec_len logs ≡ n)) c.in-Ok.ensures c.stop-logs.ensures)
