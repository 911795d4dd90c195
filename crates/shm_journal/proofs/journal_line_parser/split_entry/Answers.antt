use Rattle.std.proofs.Common.{rules, ◌≡◌, Some, ◌∷◌, [], ap, sym, ◌∙◌}
use Rattle.std.specs.Prelude.{codes}
use Rattle.std.specs.Option.{option_map_or}
use Rattle.std.proofs.lemmas.Slice.Eq.{bytes_eq-Decides}
use Rattle.shm_lines.specs.Words.{words_of, wide_of}
use Rattle.shm_journal.proofs.EntryWords.{entry-read}
use Rattle.shm_journal.proofs.journal_line_parser.split_entry.Goals as goal

pub returns-clause-some : goal.returns-clause-some
returns-clause-some c =
    let rest = c.in_ok-rest.field-0 in
    let made_by = c.in_ok-text.text in
    let verb = c.split_at.result.0.now in
    let word = c.split_at-2.result.0.now in
    let one : c.split_at.result.1 ≡ Some rest = search rules in
    let two : c.split_at-2.result.1 ≡ Some made_by = search rules in
    let step : verb ≡ codes "step" = (bytes_eq-Decides verb (codes "step")).0 (search rules) in
    let number : wide_of word ≡ Some c.in_ok-clock.clock = sym c.in_ok-clock.ensures in
    entry-read c.in_ok-clock.clock c.args.line.now verb rest.now word made_by.now
    (c.split_at.ensures.parts ∙ ap (λ o. verb ∷ option_map_or (λ r. words_of r.now) o []) one)
    step
    (c.split_at-2.ensures.parts ∙ ap (λ o. word ∷ option_map_or (λ r. words_of r.now) o []) two)
    number
