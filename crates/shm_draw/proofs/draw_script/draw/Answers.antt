use Rattle.shm_draw.specs.Captions.{besides_of}
use Rattle.shm_draw.specs.Drawn.{drawing}
use Rattle.shm_draw.proofs.Scripts.{drawn_in_front, drawn_unflushed, drawn_whole}
use Rattle.std.proofs.Common.{string_bytes}
use Rattle.shm_draw.proofs.draw_script.draw.Goals as goal

pub returns-in-Err-write_whole-clause-ends : goal.returns-in-Err-write_whole-clause-ends
returns-in-Err-write_whole-clause-ends g c =
    let contents = g.W.Write.contents in
    drawn_in_front (g.R.Read.remaining c.args.reader.now) (drawing c.args.page (besides_of c.args.captions.now)) c.in-Ok.player.standing (string_bytes c.in-Ok-player_picture.picture)
    (contents c.args.writer.now) (contents c.write_whole.new.writer) c.in-Err-write_whole.ensures.err.0
    c.in-Ok.ensures.ok c.in-Ok-player_picture.ensures (rw c.as_bytes.ensures.value at c.in-Err-write_whole.ensures.err.1)

pub returns-in-Ok-flush-clause-ends : goal.returns-in-Ok-flush-clause-ends
returns-in-Ok-flush-clause-ends g c =
    let contents = g.W.Write.contents in
    drawn_whole (g.R.Read.remaining c.args.reader.now) (drawing c.args.page (besides_of c.args.captions.now)) c.in-Ok.player.standing (string_bytes c.in-Ok-player_picture.picture)
    (contents c.args.writer.now) (contents c.write_whole.new.writer) (contents c.flush.new.self) _
    c.in-Ok.ensures.ok c.in-Ok-player_picture.ensures (rw c.as_bytes.ensures.value at c.in-Ok-write_whole.ensures.ok) c.flush.ensures.bytes

pub returns-clause-ends : goal.returns-clause-ends
returns-clause-ends g c =
    let contents = g.W.Write.contents in
    drawn_unflushed (g.R.Read.remaining c.args.reader.now) (drawing c.args.page (besides_of c.args.captions.now)) c.in-Ok.player.standing (string_bytes c.in-Ok-player_picture.picture)
    (contents c.args.writer.now) (contents c.write_whole.new.writer) (contents c.flush.new.self)
    c.in-Ok.ensures.ok c.in-Ok-player_picture.ensures (rw c.as_bytes.ensures.value at c.in-Ok-write_whole.ensures.ok) c.flush.ensures.bytes
