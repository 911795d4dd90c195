use Rattle.std.proofs.Common.{[], ◌∷◌}
use Rattle.shm_prompt.proofs.spell_saved_line.push_line.Goals as goal

pub returns-clause-refused : goal.returns-clause-refused
returns-clause-refused g c = c.append.ensures.refused (c.args.line ∷ [])
