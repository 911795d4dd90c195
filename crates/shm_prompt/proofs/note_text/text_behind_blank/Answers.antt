use Rattle.shm_prompt.proofs.NoteLemmas.{behind}
use Rattle.shm_prompt.proofs.note_text.text_behind_blank.Goals as goal

pub returns : goal.returns
returns c = behind (λ text. text.now) c.args.typed.now c.split_at.result.0.now c.split_at.result.1 c.split_at.ensures.parts
