-- Where writing fails, a front of the lines was written.
use Rattle.std.proofs.Common.{◌++◌, subst}
use Rattle.shm_report.specs.Report.{audit_yes, IsCutShort}
use Rattle.shm_report.proofs.Reports.{first_cut, second_cut}
use Rattle.shm_report.proofs.report_text.write_lines.Goals as goal

pub returns-in-Err-clause-cut : goal.returns-in-Err-clause-cut
returns-in-Err-clause-cut g c =
    let old = g.O.Write.contents c.args.writer.now in
    let new = g.O.Write.contents c.write_whole.new.writer in
    let front = c.in-Err.ensures.err in
    subst (λ text. IsCutShort old new (text ++ audit_yes)) c.as_bytes.ensures (first_cut old new c.as_bytes.result.now audit_yes front.0 front.1)

pub returns-in-Err-write_whole-clause-cut : goal.returns-in-Err-write_whole-clause-cut
returns-in-Err-write_whole-clause-cut g c =
    let old = g.O.Write.contents c.args.writer.now in
    let mid = g.O.Write.contents c.write_whole.new.writer in
    let new = g.O.Write.contents c.write_whole-2.new.writer in
    let front = c.in-Err-write_whole.ensures.err in
    subst (λ text. IsCutShort old new (text ++ audit_yes)) c.as_bytes.ensures
    (second_cut old mid new c.as_bytes.result.now audit_yes front.0 c.in-Ok.ensures.ok front.1)
