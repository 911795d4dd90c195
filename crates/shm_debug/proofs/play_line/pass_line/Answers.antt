use Rattle.std.proofs.Common.{◌≡◌, ◌++◌, not, true, is_some, sym, ap, ◌∙◌}
use Rattle.shm_lines.specs.Line.{is_first}
use Rattle.shm_text.specs.Text.{line_text}
use Rattle.shm_debug.proofs.PlayerLemmas.{said-first}
use Rattle.shm_debug.proofs.play_line.pass_line.Goals as goal

pub returns-in_ok-tell-in-None-clause-told : goal.returns-in_ok-tell-in-None-clause-told
returns-in_ok-tell-in-None-clause-told g c =
    let first : is_first c.args.line ≡ true = c.requires.first ∙ ap (λ s. not (is_some s)) c.in-None.is in
    c.in_ok-tell-in-None.ensures.ok ∙ ap (λ t. c.args.output.now ++ line_text c.args.number t) (sym (said-first c.args.session.now c.args.line first))
