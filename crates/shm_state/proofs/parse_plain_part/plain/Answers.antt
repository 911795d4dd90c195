use Rattle.std.proofs.Common.{rules, sym, ◌∙◌}
use Rattle.shm_state.proofs.PlainWords.{plain-others}
use Rattle.shm_state.proofs.parse_plain_part.plain.Goals as goal

pub returns : goal.returns
returns g c =
    c.pages.ensures
    ∙ sym (plain-others c.args.verb.now c.args.words (search rules) (search rules) (search rules) (search rules) (search rules) (search rules))
