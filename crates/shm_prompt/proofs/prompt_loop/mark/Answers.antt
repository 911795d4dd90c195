use Rattle.std.proofs.Common.{◌≡◌, ◌++◌, ◌&&◌, ◌∙◌, ap, codes, subst}
use Rattle.std.specs.Prelude.{OnOk}
use Rattle.shm_prompt.specs.Sitting.{told_if}
use Rattle.shm_prompt.proofs.TypingLemmas.{kept_between}
use Rattle.shm_prompt.proofs.prompt_loop.mark.Goals as goal

pub returns : goal.returns
returns g c = λ front k.
    subst (λ b. OnOk c.tell_if.result (c.tell_if.new.out.items ≡ c.args.out.now.items ++ told_if b (codes "> ")))
    (c.is_marked.ensures ∙ ap (λ b. c.args.is_terminal && b) (kept_between front c.args.typed.now.line.items c.args.typed.now.is_long k)) c.tell_if.ensures
