use Rattle.std.proofs.Common.{length, subst, sym}
use Rattle.std.proofs.KnownBytes.{Appends-kept}
use Rattle.std.proofs.Math.Seq.{take-length}
use Rattle.std.specs.Io.KnownBytes.{Appends}
use Rattle.shm_command.proofs.journal_backends.write_flushed.Goals as goal

pub returns-in-Err-flush-clause-front : goal.returns-in-Err-flush-clause-front
returns-in-Err-flush-clause-front g c =
    let contents = g.W.Write.contents in
    let before = contents c.args.writer.now in
    let after = contents c.flush.new.self in (
      length c.args.text.now,
      subst (Appends before after) (sym (take-length c.args.text.now))
          (Appends-kept before (contents c.write_whole.new.writer) after c.args.text.now c.in-Ok.ensures.ok c.flush.ensures.bytes),
    )
