use Rattle.std.proofs.Common.{◌≡◌, ◌∙◌, ap, codes, option_map, refl, sym}
use Rattle.std.specs.Prelude.{Some}
use Rattle.clap.specs.Words.{first_of, found_of, rows_of}
use Rattle.clap.proofs.WalkLemmas.{first_value-rows}
use Rattle.shm_command.proofs.args.task_from_options.shorten_task.Goals as goal

pub returns-in-Some : goal.returns-in-Some
returns-in-Some c =
    let found = found_of c.args.found.now in
    let named : first_of (codes "file") (rows_of found) ≡ Some c.in-Some.file.now =
    sym (first_value-rows found (codes "file")) ∙ (sym c.get_str.ensures ∙ ap (option_map (λ s. s.now)) c.in-Some.is) in
    record { called = refl; options = named }
