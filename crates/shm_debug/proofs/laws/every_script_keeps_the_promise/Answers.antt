use Rattle.shm_debug.proofs.PromiseLemmas.{always-kept}
use Rattle.shm_debug.proofs.ToldLemmas.{always-tells-last}
use Rattle.shm_debug.proofs.laws.every_script_keeps_the_promise.Goals as goal

pub returns-clause-kept : goal.returns-clause-kept
returns-clause-kept c = always-kept (λ bytes line e. (c.lines_have_one_spelling.ensures.read bytes line e).0) c.every_run_keeps_the_promise.ensures

pub returns-clause-last : goal.returns-clause-last
returns-clause-last c = always-tells-last (λ bytes line e. (c.lines_have_one_spelling.ensures.read bytes line e).0) c.every_run_keeps_the_promise.ensures
