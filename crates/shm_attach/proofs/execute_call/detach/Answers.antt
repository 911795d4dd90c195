use Rattle.shm_model.specs.declared.call.Op.TheVariants.{Detach}
use Rattle.shm_attach.proofs.Runs.{done_run}
use Rattle.shm_attach.proofs.execute_call.detach.Goals as goal

pub returns-in-Ok : goal.returns-in-Ok
returns-in-Ok g c =
    done_run (Detach c.args.id) c.args.table.now c.detach.new.self c.in-Ok.destroyed c.in-Ok.ensures.answer c.in-Ok.ensures.destroyed c.in-Ok.ensures.missing c.in-Ok.ensures.rest
