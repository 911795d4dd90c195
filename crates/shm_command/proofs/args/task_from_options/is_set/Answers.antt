use Rattle.std.proofs.Common.{rules, ◌≡◌, ◌∙◌, ap, option_map, refl, sym}
use Rattle.std.specs.Prelude.{None, Some}
use Rattle.clap.specs.Words.{first_of, found_of, rows_of}
use Rattle.clap.proofs.WalkLemmas.{first_value-rows}
use Rattle.shm_command.proofs.args.task_from_options.is_set.Goals as goal

pub returns-in-Some : goal.returns-in-Some
returns-in-Some c =
    let found = found_of c.args.found.now in
    let e : first_of c.args.option.now (rows_of found) ≡ Some c.in-Some.text.now =
    sym (first_value-rows found c.args.option.now) ∙ (sym c.get_str.ensures ∙ ap (option_map (λ s. s.now)) c.in-Some.is) in
    rw e (search rules)

pub returns-in-None : goal.returns-in-None
returns-in-None c =
    let found = found_of c.args.found.now in
    let e : first_of c.args.option.now (rows_of found) ≡ None =
    sym (first_value-rows found c.args.option.now) ∙ (sym c.get_str.ensures ∙ ap (option_map (λ s. s.now)) c.in-None.is) in
    rw e refl
