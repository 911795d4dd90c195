use Rattle.std.proofs.Common.{inl, inr}
use Rattle.shm_seal.specs.SealOf.{seal_of}
use Rattle.shm_command.proofs.Streaming.{did_nothing}
use Rattle.shm_command.proofs.dispatch_command.site.Goals as goal

pub returns-in-Ok-clause-served : goal.returns-in-Ok-clause-served
returns-in-Ok-clause-served g c = inl (seal_of c.in-Ok.seal, c.in-Ok.ensures.ok, c.sealed_site.ensures.served)

pub returns-in-Err-clause-served : goal.returns-in-Err-clause-served
returns-in-Err-clause-served g c =
    inr (c.in-Err.fault, c.in-Err.ensures.err, c.seal_error.ensures, did_nothing (g.I.Read.remaining c.args.reader.now) (g.O.Write.contents c.args.out.now))
