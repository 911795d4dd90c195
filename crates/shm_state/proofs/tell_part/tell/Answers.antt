use Rattle.std.proofs.Common.{◌∙◌, ap}
use Rattle.shm_state.proofs.Tellings.{said-push}
use Rattle.shm_state.specs.Telling.{said_by}
use Rattle.shm_state.proofs.tell_part.tell.Goals as goal

pub returns-clause-said : goal.returns-clause-said
returns-clause-said g c = ap said_by c.in_ok-push.ensures.items ∙ said-push c.args.out.now.items c.args.part
