use Rattle.std.proofs.Common.{rules, ◌≡◌, ◌∙◌, List, ap, map, sym}
use Rattle.std.specs.Borrow.{Bor}
use Rattle.std.specs.Prelude.{Some}
use Rattle.clap.specs.Words.{Text, all_of, found_of, rows_of}
use Rattle.clap.proofs.WalkLemmas.{raw_values-rows}
use Rattle.shm_command.proofs.args.task_from_options.texts.Goals as goal

pub returns : goal.returns
returns c =
    let found = found_of c.args.found.now in
    let there : all_of c.args.option.now (rows_of found) ≡ Some (map (λ v. v.now) c.in_ok-written.written.now) =
    sym (raw_values-rows found c.args.option.now) ∙ sym c.in_ok-written.ensures in
    let same : c.in_ok-texts.texts.items ≡ c.in_ok-written.written.now = search rules in
    there ∙ ap (λ (texts : List (Bor Text)). Some (map (λ v. v.now) texts)) (sym same)
