use Rattle.std.proofs.Common.{length, subst, sym}
use Rattle.std.proofs.Math.Seq.{take-length}
use Rattle.std.specs.Io.KnownBytes.{Appends}
use Rattle.std.proofs.KnownBytes.{Appends-kept}
use Rattle.shm_debug.proofs.output_buffer.write_and_flush.Goals as goal

-- all was written, and only the flush failed
pub returns-in-Err-clause-err : goal.returns-in-Err-clause-err
returns-in-Err-clause-err g c =
    let contents = g.W.Write.contents in
    let before = contents c.args.writer.now in
    let after = contents c.flush.new.self in
    let text = c.args.text.now in (
      length text,
      subst (Appends before after) (sym (take-length text))
          (Appends-kept before (contents c.write_told.new.writer) after text c.in_ok-write_told.ensures.ok c.flush.ensures.bytes),
    )
