use Rattle.std.proofs.Common.{sym, subst}
use Rattle.shm_model.specs.declared.call.Op.TheVariants.{Attach}
use Rattle.shm_model.specs.declared.call.Reply.TheVariants.{Attached as AttachedReply}
use Rattle.shm_attach.specs.Home.{IsRun}
use Rattle.shm_attach.specs.declared.call_outcome.Done.{Done}
use Rattle.shm_attach.proofs.Runs.{attach_run}
use Rattle.shm_attach.proofs.execute_call.attach.Goals as goal

pub returns-in-Ok-clause-run : goal.returns-in-Ok-clause-run
returns-in-Ok-clause-run g c =
    subst (λ (done : Done). IsRun (Attach c.args.cred c.args.id c.args.ro) c.args.table.now c.attach.new.self done) (sym c.reply_alone.ensures)
    (attach_run c.args.cred c.args.id c.args.ro c.args.table.now c.attach.new.self (AttachedReply c.in-Ok.attached) c.in-Ok.ensures.answer c.in-Ok.ensures.rest)
