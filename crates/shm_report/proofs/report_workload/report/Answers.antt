-- What is told of the run is the report.
use Rattle.std.proofs.Common.{append-nil, subst, sym}
use Rattle.std.specs.Io.KnownBytes.{Appends}
use Rattle.shm_report.specs.Callers.{AreOf}
use Rattle.shm_report.specs.Causes.{audit_cause, input_cause}
use Rattle.shm_report.specs.Report.{IsCutShort}
use Rattle.shm_report.proofs.Causes.{ending_none, unmatched_of}
use Rattle.shm_report.proofs.Reports.{if_err, of_none, on_ok, right_of_run, unsummed, IsRunOf}
use Rattle.shm_report.proofs.report_workload.report.Goals as goal

pub returns-in-Ok-clause-told : goal.returns-in-Ok-clause-told
returns-in-Ok-clause-told g c =
    let old = g.O.Write.contents c.args.writer.now in
    let new = g.O.Write.contents c.write.new.writer in
    let known = g.I.Read.remaining c.args.reader.now in
    let of : IsRunOf c.args.sites known c.in-Ok.run' = record { accepted = c.in-Ok.ensures.accepted; among = c.in-Ok.ensures.sites; read = c.in-Ok.ensures.read } in
    on_ok c.write.result
    (λ told. (told.0, subst (Appends old new) (append-nil told.0) told.1, unsummed c.args.sites known c.in-Ok.run' told.0 of told.2))
    c.write.ensures.told

pub returns-in-Ok-clause-cut : goal.returns-in-Ok-clause-cut
returns-in-Ok-clause-cut g c =
    let old = g.O.Write.contents c.args.writer.now in
    let new = g.O.Write.contents c.write.new.writer in
    let known = g.I.Read.remaining c.args.reader.now in
    let of : IsRunOf c.args.sites known c.in-Ok.run' = record { accepted = c.in-Ok.ensures.accepted; among = c.in-Ok.ensures.sites; read = c.in-Ok.ensures.read } in
    if_err c.write.result
    (λ fault cut is.
    let told = cut is in
    (told.0, subst (IsCutShort old new) (append-nil told.0) told.1, unsummed c.args.sites known c.in-Ok.run' told.0 of told.2))
    c.write.ensures.cut

pub returns-in-Ok-clause-right : goal.returns-in-Ok-clause-right
returns-in-Ok-clause-right g c =
    let known = g.I.Read.remaining c.args.reader.now in
    let of : IsRunOf c.args.sites known c.in-Ok.run' = record { accepted = c.in-Ok.ensures.accepted; among = c.in-Ok.ensures.sites; read = c.in-Ok.ensures.read } in
    if_err c.write.result (λ fault other after. right_of_run c.args.sites known c.in-Ok.run' of) c.write.ensures.other

pub returns-in-Ok-clause-input : goal.returns-in-Ok-clause-input
returns-in-Ok-clause-input g c = if_err c.write.result (λ fault other. of_none (input_cause fault) _ other.input) c.write.ensures.other

pub returns-in-Ok-clause-audit : goal.returns-in-Ok-clause-audit
returns-in-Ok-clause-audit g c = if_err c.write.result (λ fault other. of_none (audit_cause fault) _ other.audit) c.write.ensures.other

pub returns-in-Ok-clause-line : goal.returns-in-Ok-clause-line
returns-in-Ok-clause-line g c = if_err c.write.result (λ fault ending. ending_none fault _ ending) c.write.ensures.ending

pub returns-in-Ok-clause-unmatched : goal.returns-in-Ok-clause-unmatched
returns-in-Ok-clause-unmatched g c =
    let accesses = c.in-Ok.run'.workload.accesses.items in
    let among : AreOf c.in-Ok.run'.sites accesses = subst (λ sites. AreOf sites accesses) (sym c.in-Ok.ensures.sites) c.in-Ok.ensures.among in
    if_err c.write.result (λ fault served is. absurd (served c.in-Ok.ensures.accepted among is)) c.write.ensures.served

pub returns-in-Err-clause-unmatched : goal.returns-in-Err-clause-unmatched
returns-in-Err-clause-unmatched g c is =
    unmatched_of c.args.sites (g.I.Read.remaining c.args.reader.now) c.in-Err.refused.fault c.in-Err.refused.ran c.in-Err.ensures.ran is
