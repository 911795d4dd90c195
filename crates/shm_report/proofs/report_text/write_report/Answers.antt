-- Where writing fails, a front of the report was written.
use Rattle.std.proofs.Common.{◌++◌, subst}
use Rattle.shm_report.specs.Report.{audit_yes, IsCutShort}
use Rattle.shm_report.proofs.Reports.{cut_before, second_cut, uncut}
use Rattle.shm_report.proofs.report_text.write_report.Goals as goal

pub returns-in-Err-clause-cut : goal.returns-in-Err-clause-cut
returns-in-Err-clause-cut g c =
    let old = g.O.Write.contents c.args.writer.now in
    let new = g.O.Write.contents c.write_lines.new.writer in
    cut_before old new (c.args.text.now ++ audit_yes) c.args.more.now c.in-Err.ensures.cut

pub returns-in-Err-write_whole-clause-cut : goal.returns-in-Err-write_whole-clause-cut
returns-in-Err-write_whole-clause-cut g c =
    let old = g.O.Write.contents c.args.writer.now in
    let mid = g.O.Write.contents c.write_lines.new.writer in
    let new = g.O.Write.contents c.write_whole.new.writer in
    let front = c.in-Err-write_whole.ensures.err in
    subst (λ more. IsCutShort old new ((c.args.text.now ++ audit_yes) ++ more)) c.as_bytes.ensures.value
    (second_cut old mid new (c.args.text.now ++ audit_yes) c.as_bytes.result.now front.0 c.in-Ok.ensures.written front.1)

pub returns-in-Err-flush-clause-cut : goal.returns-in-Err-flush-clause-cut
returns-in-Err-flush-clause-cut g c =
    let old = g.O.Write.contents c.args.writer.now in
    let mid = g.O.Write.contents c.write_lines.new.writer in
    let last = g.O.Write.contents c.write_whole.new.writer in
    let new = g.O.Write.contents c.flush.new.self in
    subst (λ more. IsCutShort old new ((c.args.text.now ++ audit_yes) ++ more)) c.as_bytes.ensures.value
    (uncut old mid last new (c.args.text.now ++ audit_yes) c.as_bytes.result.now c.in-Ok.ensures.written c.in-Ok-write_whole.ensures.ok c.flush.ensures.bytes)
