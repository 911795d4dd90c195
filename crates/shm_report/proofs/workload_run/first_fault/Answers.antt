-- One more caller, which may have ended by an earlier fault.
use Rattle.std.proofs.Common.{◌∙◌, ◌+◌, ap, arith, subst, sym, take}
use Rattle.std.proofs.lemmas.List.{take_all}
use Rattle.shm_report.specs.RunFaults.{earlier, fault_of, FirstIfAny}
use Rattle.shm_report.proofs.FirstFault.{next_caller}
use Rattle.shm_report.proofs.workload_run.first_fault.Goals as goal

pub callers-preserved : goal.callers-preserved
callers-preserved c =
    let told = c.args.told.now in
    let place = c.callers.caller-index in
    let caller = c.caller-item.result in
    let next : FirstIfAny (take (place + 1) told) (earlier c.callers.first (fault_of caller)) =
    next_caller told place caller c.callers.first c.callers-test.true c.caller-item.is c.callers.invariant in
    subst (FirstIfAny (take (place + 1) told)) (sym (c.earlier-first.ensures ∙ ap (earlier c.callers.first) c.fault_of.ensures)) next

pub returns : goal.returns
returns c =
    let told = c.args.told.now in
    subst (λ callers. FirstIfAny callers c.callers.first) (take_all c.callers.caller-index told (omega arith)) c.callers.invariant
