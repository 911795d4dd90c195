use Rattle.std.proofs.Common.{ℕ, length-take, length-drop, take, drop, arith}
use Rattle.std.proofs.Math.Seq.{take-add}
use Rattle.std.proofs.lemmas.List.{take_rest}
use Rattle.std.proofs.KnownBytes.{Appends-trans}
use Rattle.std.specs.Io.KnownBytes.{Appends}
use Rattle.shm_text.proofs.read_and_write.write_whole.Goals as goal

pub loop-done-preserved : goal.loop-done-preserved
loop-done-preserved g c =
    let done = c.loop-done.done in
    let count = c.in-Ok.count in
    let text = c.args.text.now in
    let contents = g.W.Write.contents in
    let bytes : Appends (contents c.loop-done.writer) (contents c.write.new.self) (take count (drop done text)) = rw take_rest at c.in-Ok.ensures.bytes in (
      omega (arith, length-take {A = ℕ}, length-drop {A = ℕ}, c.in-Ok.ensures),
      rw (take-add done count text) (Appends-trans (contents c.args.writer.now) (contents c.loop-done.writer) (contents c.write.new.self) (take done text) (take count (drop done text)) c.loop-done.invariant.1 bytes),
    )
