-- An access that was given up stands on a line of the workload that was read. What is told of a run is told of this one.
use Rattle.std.proofs.Common.{◌≡◌, None, Some, IfErr}
use Rattle.shm_report.proofs.Causes.{audit_told_of, found_of, run_line_in, run_told_of, unread_none, unread_tells}
use Rattle.shm_report.specs.Report.{whole_of}
use Rattle.shm_report.proofs.report_workload.run_audited.Goals as goal

pub returns-in-Err-clause-line : goal.returns-in-Err-clause-line
returns-in-Err-clause-line g c = unread_none c.in-Err.fault _ c.in-Err.ensures.unread

pub returns-in-Err-clause-ran : goal.returns-in-Err-clause-ran
returns-in-Err-clause-ran g c = unread_tells c.args.sites (g.I.Read.remaining c.args.reader.now) c.in-Err.fault None c.in-Err.ensures.unread

pub returns-in-Err-run_workload-clause-line : goal.returns-in-Err-run_workload-clause-line
returns-in-Err-run_workload-clause-line g c =
    run_line_in c.args.sites (g.I.Read.remaining c.args.reader.now) (whole_of c.in-Ok.workload) c.in-Err-run_workload.refused.fault
    c.refused_report.result.fault c.in-Ok.ensures.read c.in-Err-run_workload.ensures.place c.refused_report.ensures.same

pub returns-in-Err-run_workload-clause-ran : goal.returns-in-Err-run_workload-clause-ran
returns-in-Err-run_workload-clause-ran g c =
    run_told_of c.args.sites (g.I.Read.remaining c.args.reader.now) (whole_of c.in-Ok.workload) c.in-Err-run_workload.refused.fault
    c.refused_report.result.fault c.refused_report.result.ran c.in-Err-run_workload.refused.ran c.in-Ok.ensures.read
    c.in-Err-run_workload.ensures.unmatched c.refused_report.ensures.same c.refused_report.ensures.ran

pub returns-clause-ran : goal.returns-clause-ran
returns-clause-ran g c =
    audit_told_of c.audit_run.result c.args.sites (g.I.Read.remaining c.args.reader.now) (whole_of c.in-Ok.workload) c.in-Ok-run_workload.ran
    c.in-Ok.ensures.read c.in-Ok-run_workload.ensures.served c.in-Ok-run_workload.ensures.logs
    c.audit_run.ensures.audit c.audit_run.ensures.unmatched c.audit_run.ensures.ran

pub returns-clause-audit : goal.returns-clause-audit
returns-clause-audit g c = found_of c.audit_run.result c.args.sites (g.I.Read.remaining c.args.reader.now) (returns-clause-ran g c)
