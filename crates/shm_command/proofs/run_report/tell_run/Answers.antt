-- What is told of the run is told of the workload that was read.
use Rattle.std.proofs.Common.{inl, inr}
use Rattle.shm_report.specs.Causes.{audit_cause, input_cause}
use Rattle.shm_report.proofs.Reports.{if_err, of_none, on_ok, right_of_run, told_of_run, IsRunOf}
use Rattle.shm_command.proofs.run_report.tell_run.Goals as goal

pub returns-in-Ok-clause-told : goal.returns-in-Ok-clause-told
returns-in-Ok-clause-told g c =
    let known = g.I.Read.remaining c.args.reader.now in
    let of : IsRunOf c.args.sites known c.in-Ok.run' =
    record { accepted = c.in-Ok.ensures.accepted; among = c.in-Ok.ensures.sites; read = c.in-Ok.ensures.read } in
    on_ok c.tell_wanted.result
    (λ told. (told.0, told.1, told_of_run c.args.wanted.now.summary c.args.sites known c.in-Ok.run' told.0 of told.2))
    c.tell_wanted.ensures.told

pub returns-in-Ok-clause-right : goal.returns-in-Ok-clause-right
returns-in-Ok-clause-right g c =
    let known = g.I.Read.remaining c.args.reader.now in
    let of : IsRunOf c.args.sites known c.in-Ok.run' =
    record { accepted = c.in-Ok.ensures.accepted; among = c.in-Ok.ensures.sites; read = c.in-Ok.ensures.read } in
    if_err c.tell_wanted.result (λ fault other after. right_of_run c.args.sites known c.in-Ok.run' of) c.tell_wanted.ensures.other

pub returns-in-Ok-clause-input : goal.returns-in-Ok-clause-input
returns-in-Ok-clause-input g c = if_err c.tell_wanted.result (λ fault other. of_none (input_cause fault) _ other.input) c.tell_wanted.ensures.other

pub returns-in-Ok-clause-audit : goal.returns-in-Ok-clause-audit
returns-in-Ok-clause-audit g c = if_err c.tell_wanted.result (λ fault other. of_none (audit_cause fault) _ other.audit) c.tell_wanted.ensures.other

pub returns-in-Ok-clause-cut : goal.returns-in-Ok-clause-cut
returns-in-Ok-clause-cut g c =
    let known = g.I.Read.remaining c.args.reader.now in
    let of : IsRunOf c.args.sites known c.in-Ok.run' =
    record { accepted = c.in-Ok.ensures.accepted; among = c.in-Ok.ensures.sites; read = c.in-Ok.ensures.read } in
    if_err c.tell_wanted.result
    (λ fault cut is.
    elim (cut is) [
      | inl same ↦ inl same
      | inr told ↦ inr (told.0, told.1, told_of_run c.args.wanted.now.summary c.args.sites known c.in-Ok.run' told.0 of told.2)
    ])
    c.tell_wanted.ensures.cut
