use Rattle.std.proofs.Common.{◌≡◌, ◌∙◌, List, ap, map, option_map, refl, subst, sym}
use Rattle.std.specs.Option.{option_map_or}
use Rattle.std.specs.Prelude.{IfSome, None, Option, Some}
use Rattle.clap.specs.Walk.{all_of}
use Rattle.clap.specs.Words.{Text, found_of, rows_of}
use Rattle.clap.proofs.WalkLemmas.{raw_values-rows}
use Rattle.shm_command.specs.Words.{number_at}
use Rattle.shm_command.proofs.args.task_from_options.long_number_or.Goals as goal

pub returns-in-Some : goal.returns-in-Some
returns-in-Some c =
    let rows = rows_of (found_of c.args.found.now) in
    let e : all_of c.args.option.now rows ≡ Some (map (λ v. v.now) c.in-Some.field-0.now) =
    sym (raw_values-rows (found_of c.args.found.now) c.args.option.now) ∙ (sym c.get_raw.ensures ∙ ap (option_map (λ s. map (λ v. v.now) s.now)) c.in-Some.is) in
    subst (λ (texts : Option (List Text)). IfSome c.long_number.result (λ n. option_map_or (λ _. number_at c.args.option.now rows) texts (Some c.args.other) ≡ Some n))
    (sym e) c.long_number.ensures

pub returns-in-None : goal.returns-in-None
returns-in-None c =
    let e : all_of c.args.option.now (rows_of (found_of c.args.found.now)) ≡ None =
    sym (raw_values-rows (found_of c.args.found.now) c.args.option.now) ∙ (sym c.get_raw.ensures ∙ ap (option_map (λ s. map (λ v. v.now) s.now)) c.in-None.is) in
    rw e refl
