use Rattle.std.proofs.Common.{rules, ◌≡◌, ◌∙◌, ◌∷◌, ap, map, sym}
use Rattle.shm_command.specs.Words.{has_long_word, is_long}
use Rattle.shm_command.proofs.Wrong.{any_map}
use Rattle.shm_command.proofs.args.word_checks.has_long_word.Goals as goal

pub returns-in-Some : goal.returns-in-Some
returns-in-Some g c =
    let text = g.S.AsStr.text in
    let all : c.args.words.now ≡ c.in-Some.field-0-0.now ∷ c.in-Some.others.now = search rules in
    c.is_any_long.ensures ∙ (any_map is_long text c.in-Some.others.now ∙ sym (ap (λ words. has_long_word (map text words)) all))
