use Rattle.std.proofs.Common.{refl, sym, ◌∙◌}
use Rattle.shm_site.proofs.Steps.{on_err}
use Rattle.shm_world.proofs.Undoing.{page-is}
use Rattle.shm_world.proofs.undo_event.also_taking.Goals as goal

pub returns-in_err-envelope-clause-memory : goal.returns-in_err-envelope-clause-memory
returns-in_err-envelope-clause-memory g c = on_err c.from_residual.result (sym (page-is c.args.envelope.now.message) ∙ c.in_err-envelope.ensures.memory refl)
