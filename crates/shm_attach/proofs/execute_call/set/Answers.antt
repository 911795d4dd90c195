use Rattle.std.proofs.Common.{sym, subst}
use Rattle.shm_model.specs.declared.call.Op.TheVariants.{Set}
use Rattle.shm_model.specs.declared.call.Reply.TheVariants.{Ok as OkReply}
use Rattle.shm_attach.specs.Home.{IsRun}
use Rattle.shm_attach.specs.declared.call_outcome.Done.{Done}
use Rattle.shm_attach.proofs.Runs.{set_run}
use Rattle.shm_attach.proofs.execute_call.set.Goals as goal

pub returns-in-Ok-clause-run : goal.returns-in-Ok-clause-run
returns-in-Ok-clause-run g c =
    subst (λ (done : Done). IsRun (Set c.args.cred c.args.id c.args.uid c.args.gid c.args.mode) c.args.table.now c.set.new.self done) (sym c.reply_alone.ensures)
    (set_run c.args.cred c.args.id c.args.uid c.args.gid c.args.mode c.args.table.now c.set.new.self OkReply c.in-Ok.ensures.answer c.in-Ok.ensures.rest)
