use Rattle.std.proofs.Common.{◌≡◌, ◌∙◌, ap, map, option_map, refl, sym}
use Rattle.std.specs.Prelude.{None, Some}
use Rattle.clap.specs.Walk.{all_of}
use Rattle.clap.specs.Words.{found_of, rows_of}
use Rattle.clap.proofs.WalkLemmas.{raw_values-rows}
use Rattle.shm_command.specs.Words.{is_plain}
use Rattle.shm_command.proofs.Wrong.{all_map}
use Rattle.shm_command.proofs.args.word_checks.is_plain_at.Goals as goal

pub returns-in-Some : goal.returns-in-Some
returns-in-Some c =
    let e : all_of c.args.option.now (rows_of (found_of c.args.found.now)) ≡ Some (map (λ v. v.now) c.in-Some.values.now) =
    sym (raw_values-rows (found_of c.args.found.now) c.args.option.now) ∙ (sym c.get_raw.ensures ∙ ap (option_map (λ s. map (λ v. v.now) s.now)) c.in-Some.is) in
    rw e (c.are_all_plain.ensures ∙ all_map is_plain (λ v. v.now) c.in-Some.values.now)

pub returns-in-None : goal.returns-in-None
returns-in-None c =
    let e : all_of c.args.option.now (rows_of (found_of c.args.found.now)) ≡ None =
    sym (raw_values-rows (found_of c.args.found.now) c.args.option.now) ∙ (sym c.get_raw.ensures ∙ ap (option_map (λ s. map (λ v. v.now) s.now)) c.in-None.is) in
    rw e refl
