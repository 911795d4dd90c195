use Rattle.std.proofs.Common.{rules, ◌≡◌, ◌∙◌, ap, codes, option_map, refl, sym}
use Rattle.std.specs.Prelude.{Some}
use Rattle.clap.specs.Words.{first_of, found_of, rows_of}
use Rattle.clap.proofs.WalkLemmas.{first_value-rows}
use Rattle.shm_command.proofs.args.task_from_options.run_task.Goals as goal

pub returns : goal.returns
returns c =
    let same : c.in_ok-sites.sites ≡ c.in_ok-number.field-0 = search rules in
    let found = found_of c.args.found.now in
    let logged : first_of (codes "log") (rows_of found) ≡ option_map (λ s. s.now) c.get_str-log.result =
    sym (first_value-rows found (codes "log")) ∙ sym c.get_str-log.ensures in
    record { called = refl; options = (c.in_ok-number.ensures ∙ ap Some (sym same), c.in_ok-seed.ensures, sym c.is_set-summary.ensures, logged) }
