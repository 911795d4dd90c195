use Rattle.shm_prompt.proofs.FileNameLemmas.{no_name, one_name}
use Rattle.shm_prompt.proofs.file_name.name_of.Goals as goal

pub returns-in_default-clause-named : goal.returns-in_default-clause-named
returns-in_default-clause-named c = no_name c.args.word.now c.in_default.ensures.cases.0

pub returns-clause-named : goal.returns-clause-named
returns-clause-named c = one_name c.args.word.now c.in-Ok.name.now c.in-Ok.ensures.cases.0 c.in-Ok.ensures.cases.1 c.if-has_control.ensures
