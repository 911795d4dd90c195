use Rattle.std.proofs.Common.{◌≡◌, ◌∙◌, ap, codes, map, option_map, refl, sym}
use Rattle.std.specs.Prelude.{None, Some, option_and_then}
use Rattle.clap.specs.Walk.{all_of}
use Rattle.clap.specs.Words.{first_of, found_of, rows_of}
use Rattle.clap.proofs.WalkLemmas.{first_value-rows, raw_values-rows}
use Rattle.shm_command.specs.Words.{page_named}
use Rattle.shm_command.proofs.args.task_from_options.draw_task.Goals as goal

pub returns-in_ok-page-in-Some : goal.returns-in_ok-page-in-Some
returns-in_ok-page-in-Some c =
    let e : all_of (codes "page") (rows_of (found_of c.args.found.now)) ≡ Some (map (λ v. v.now) c.in-Some.values.now) =
    sym (raw_values-rows (found_of c.args.found.now) (codes "page")) ∙ (sym c.get_raw.ensures ∙ ap (option_map (λ s. map (λ v. v.now) s.now)) c.in-Some.is) in
    let noted : first_of (codes "notes") (rows_of (found_of c.args.found.now)) ≡ option_map (λ s. s.now) c.get_str-notes.result =
    sym (first_value-rows (found_of c.args.found.now) (codes "notes")) ∙ sym c.get_str-notes.ensures in
    let named : first_of (codes "file") (rows_of (found_of c.args.found.now)) ≡ option_map (λ s. s.now) c.get_str-file.result =
    sym (first_value-rows (found_of c.args.found.now) (codes "file")) ∙ sym c.get_str-file.ensures in
    record { called = refl; options = (sym (ap (option_and_then page_named) e ∙ c.in_ok-page-in-Some.ensures), sym c.is_set-steps.ensures, noted, named) }

pub returns-in-None : goal.returns-in-None
returns-in-None c =
    let e : all_of (codes "page") (rows_of (found_of c.args.found.now)) ≡ None =
    sym (raw_values-rows (found_of c.args.found.now) (codes "page")) ∙ (sym c.get_raw.ensures ∙ ap (option_map (λ s. map (λ v. v.now) s.now)) c.in-None.is) in
    let noted : first_of (codes "notes") (rows_of (found_of c.args.found.now)) ≡ option_map (λ s. s.now) c.get_str-notes.result =
    sym (first_value-rows (found_of c.args.found.now) (codes "notes")) ∙ sym c.get_str-notes.ensures in
    let named : first_of (codes "file") (rows_of (found_of c.args.found.now)) ≡ option_map (λ s. s.now) c.get_str-file.result =
    sym (first_value-rows (found_of c.args.found.now) (codes "file")) ∙ sym c.get_str-file.ensures in
    record { called = refl; options = (sym (ap (option_and_then page_named) e), sym c.is_set-steps.ensures, noted, named) }
