-- Nothing stands behind the report.
use Rattle.std.proofs.Common.{append-nil, inr, subst}
use Rattle.std.specs.Io.KnownBytes.{Appends}
use Rattle.shm_report.proofs.Reports.{if_err, on_ok}
use Rattle.shm_report.specs.Report.{IsCutShort}
use Rattle.shm_command.proofs.run_report.tell_plainly.Goals as goal

pub returns-clause-told : goal.returns-clause-told
returns-clause-told g c =
    let old = g.O.Write.contents c.args.out.now in
    let new = g.O.Write.contents c.write.new.writer in
    on_ok c.write.result (λ told. (told.0, subst (Appends old new) (append-nil told.0) told.1, told.2)) c.write.ensures.told

pub returns-clause-cut : goal.returns-clause-cut
returns-clause-cut g c =
    let old = g.O.Write.contents c.args.out.now in
    let new = g.O.Write.contents c.write.new.writer in
    if_err c.write.result
    (λ fault cut is.
    let told = cut is in
    inr (told.0, subst (IsCutShort old new) (append-nil told.0) told.1, told.2))
    c.write.ensures.cut
