-- Behind the report stands the summary.
use Rattle.std.proofs.Common.{◌∙◌, ◌++◌, ap, inr}
use Rattle.shm_report.proofs.Reports.{if_err, on_ok}
use Rattle.shm_command.proofs.run_report.tell_with_summary.Goals as goal

pub returns-clause-told : goal.returns-clause-told
returns-clause-told g c =
    on_ok c.write.result
    (λ told. (
      told.0 ++ c.as_str.result.now,
      told.1,
      (told.0, c.args.took, told.2, ap (λ more. told.0 ++ more) (c.as_str.ensures.value ∙ c.in-Ok.ensures)),
    ))
    c.write.ensures.told

pub returns-clause-cut : goal.returns-clause-cut
returns-clause-cut g c =
    if_err c.write.result
    (λ fault cut is.
    let told = cut is in
    inr (
      told.0 ++ c.as_str.result.now,
      told.1,
      (told.0, c.args.took, told.2, ap (λ more. told.0 ++ more) (c.as_str.ensures.value ∙ c.in-Ok.ensures)),
    ))
    c.write.ensures.cut
