use Rattle.shm_prompt.proofs.NoteLemmas.{drawn-text}
use Rattle.shm_prompt.proofs.script_notes.Notes.text.Goals as goal

pub returns-clause-drawn : goal.returns-clause-drawn
returns-clause-drawn g c = drawn-text c.self.inside.notes.items c.args.self.now c.as_slice.result.now c.text_of.result (λ text. text.items) c.self.view_is c.as_slice.ensures.value c.self.invariant c.text_of.ensures
