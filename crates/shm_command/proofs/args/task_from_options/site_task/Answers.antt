use Rattle.std.proofs.Common.{rules, ◌≡◌, ◌≤◌, ◌∙◌, ap, codes, option_map, refl, sym}
use Rattle.std.specs.Prelude.{Some}
use Rattle.clap.specs.Words.{first_of, found_of, rows_of}
use Rattle.clap.proofs.WalkLemmas.{first_value-rows}
use Rattle.shm_command.proofs.args.task_from_options.site_task.Goals as goal

pub returns : goal.returns
returns c =
    let same : c.in_ok-sites.sites ≡ c.in_ok-number.field-0 = search rules in
    let found = found_of c.args.found.now in
    let kept : first_of (codes "journal") (rows_of found) ≡ option_map (λ s. s.now) c.get_str-journal.result =
    sym (first_value-rows found (codes "journal")) ∙ sym c.get_str-journal.ensures in
    let cluster : first_of (codes "cluster") (rows_of found) ≡ option_map (λ s. s.now) c.get_str.result =
    sym (first_value-rows found (codes "cluster")) ∙ sym c.get_str.ensures in
    let key : first_of (codes "key") (rows_of found) ≡ option_map (λ s. s.now) c.get_str-2.result =
    sym (first_value-rows found (codes "key")) ∙ sym c.get_str-2.ensures in
    let least : 1 ≤ c.in_ok-pages.pages = search rules in
    let most : c.in_ok-pages.pages ≤ 256 = search rules in
    record { called = refl; options = (c.in_ok-number.ensures ∙ ap Some (sym same), c.in_ok-number-2.ensures, c.in_ok-pages.ensures, (least, most), kept, sym c.is_set-begins.ensures, cluster, key, c.in_ok-shortening.ensures) }
