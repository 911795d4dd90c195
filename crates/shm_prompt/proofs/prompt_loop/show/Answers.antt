use Rattle.std.proofs.Common.{subst}
use Rattle.std.specs.Prelude.{IfErr, OnOk}
use Rattle.std.specs.Io.KnownBytes.{Appends}
use Rattle.shm_prompt.specs.Sitting.{NotShown}
use Rattle.shm_prompt.proofs.prompt_loop.show.Goals as goal

pub returns-in-Ok-clause-shown : goal.returns-in-Ok-clause-shown
returns-in-Ok-clause-shown g c = λ front k.
    subst (λ t. OnOk c.write_and_flush.result (Appends (g.W.Write.contents c.args.writer.now) (g.W.Write.contents c.write_and_flush.new.writer) t))
    (c.in-Ok.ensures front k) c.write_and_flush.ensures.written

pub returns-in-Ok-clause-fault : goal.returns-in-Ok-clause-fault
returns-in-Ok-clause-fault g c = λ front k.
    subst (λ t. IfErr c.write_and_flush.result (NotShown (g.W.Write.contents c.args.writer.now) (g.W.Write.contents c.write_and_flush.new.writer) t))
    (c.in-Ok.ensures front k) c.write_and_flush.ensures.fault
