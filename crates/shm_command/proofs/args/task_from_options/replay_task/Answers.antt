use Rattle.std.proofs.Common.{◌≡◌, ◌∙◌, codes, option_map, refl, sym}
use Rattle.clap.specs.Words.{first_of, found_of, rows_of}
use Rattle.clap.proofs.WalkLemmas.{first_value-rows}
use Rattle.shm_command.proofs.args.task_from_options.replay_task.Goals as goal

pub returns : goal.returns
returns c =
    let found = found_of c.args.found.now in
    let named : first_of (codes "file") (rows_of found) ≡ option_map (λ s. s.now) c.get_str-file.result =
    sym (first_value-rows found (codes "file")) ∙ sym c.get_str-file.ensures in
    record { called = refl; options = named }
