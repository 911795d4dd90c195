use Rattle.std.proofs.Common.{rules, ◌≡◌, ◌∙◌, ap, refl, sym}
use Rattle.std.specs.Prelude.{Some}
use Rattle.shm_command.proofs.args.task_from_options.audit_task.Goals as goal

pub returns : goal.returns
returns c =
    let same : c.in_ok-sites.sites ≡ c.in_ok-number.field-0 = search rules in
    record { called = refl; options = (c.in_ok-number.ensures ∙ ap Some (sym same), c.in_ok-journals.ensures) }
