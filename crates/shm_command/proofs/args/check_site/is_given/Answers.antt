use Rattle.std.proofs.Common.{◌≡◌, ◌∙◌, ap, map, option_map, refl, sym}
use Rattle.std.specs.Prelude.{None, Some}
use Rattle.clap.specs.Walk.{all_of}
use Rattle.clap.specs.Words.{found_of, rows_of}
use Rattle.clap.proofs.WalkLemmas.{raw_values-rows}
use Rattle.shm_command.proofs.args.check_site.is_given.Goals as goal

pub returns-in-Some : goal.returns-in-Some
returns-in-Some c =
    let e : all_of c.args.option.now (rows_of (found_of c.args.found.now)) ≡ Some (map (λ v. v.now) c.in-Some.field-0.now) =
    sym (raw_values-rows (found_of c.args.found.now) c.args.option.now) ∙ (sym c.get_raw.ensures ∙ ap (option_map (λ s. map (λ v. v.now) s.now)) c.in-Some.is) in
    rw e refl

pub returns-in-None : goal.returns-in-None
returns-in-None c =
    let e : all_of c.args.option.now (rows_of (found_of c.args.found.now)) ≡ None =
    sym (raw_values-rows (found_of c.args.found.now) c.args.option.now) ∙ (sym c.get_raw.ensures ∙ ap (option_map (λ s. map (λ v. v.now) s.now)) c.in-None.is) in
    rw e refl
