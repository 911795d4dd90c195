-- What was audited is what is told.
use Rattle.std.proofs.Common.{◌≡◌, ◌∙◌, ◌++◌, arith, subst, sym}
use Rattle.shm_report.specs.Report.{audit_yes}
use Rattle.shm_report.proofs.Answered.{memory_alone, OnlyMemory}
use Rattle.shm_report.proofs.Reports.{if_err, if_on_err, is_report_of, on_ok, TellsIfServed}
use Rattle.shm_report.specs.declared.report_error.ReportFault.TheVariants.{Logs, OutOfMemory, WriteFault}
use Rattle.shm_report.proofs.audited_run.Audited.write.Goals as goal

pub returns-in-Ok-clause-told : goal.returns-in-Ok-clause-told
returns-in-Ok-clause-told g c =
    let run = c.args.self.now in
    let text = c.in-Ok.text in
    let tells : TellsIfServed run.workload.accesses.items run.ran.callers.items text =
    subst (λ accesses. TellsIfServed accesses run.ran.callers.items text) c.as_slice.ensures.value
    (subst (λ callers. TellsIfServed c.as_slice.result.now callers text) c.as_slice-2.ensures.value c.in-Ok.ensures.lines) in
    on_ok c.write_report.result (λ appended. (text ++ audit_yes, appended, is_report_of run text tells)) c.write_report.ensures.written

pub returns-in-Ok-clause-cut : goal.returns-in-Ok-clause-cut
returns-in-Ok-clause-cut g c =
    let run = c.args.self.now in
    let text = c.in-Ok.text in
    let tells : TellsIfServed run.workload.accesses.items run.ran.callers.items text =
    subst (λ accesses. TellsIfServed accesses run.ran.callers.items text) c.as_slice.ensures.value
    (subst (λ callers. TellsIfServed c.as_slice.result.now callers text) c.as_slice-2.ensures.value c.in-Ok.ensures.lines) in
    if_on_err c.write_report.result (λ fault cut is. (text ++ audit_yes, cut, is_report_of run text tells)) c.write_report.ensures.cut

pub returns-in-Ok-clause-served : goal.returns-in-Ok-clause-served
returns-in-Ok-clause-served g c =
    if_err c.write_report.result (λ fault is accepted among logs. absurd (let other : WriteFault ≡ Logs = sym is ∙ logs in cc)) c.write_report.ensures.fault

pub returns-in-Err-clause-served : goal.returns-in-Err-clause-served
returns-in-Err-clause-served g c accepted among logs =
    let run = c.args.self.now in
    let accesses = run.workload.accesses.items in
    let callers = run.ran.callers.items in
    let memory : OnlyMemory accesses callers c.in-Err.fault =
    subst (λ accesses. OnlyMemory accesses callers c.in-Err.fault) c.as_slice.ensures.value
    (subst (λ callers. OnlyMemory c.as_slice.result.now callers c.in-Err.fault) c.as_slice-2.ensures.value c.in-Err.ensures.served) in
    let is : c.in-Err.fault ≡ OutOfMemory = memory_alone run c.in-Err.fault accepted among (omega arith) memory in
    absurd (let other : OutOfMemory ≡ Logs = sym is ∙ logs in cc)
