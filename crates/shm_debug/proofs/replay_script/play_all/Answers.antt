use Rattle.std.proofs.Common.{◌+◌, ◌<◌, ◌≤◌, [], length, length-take, take, sym, subst, arith}
use Rattle.std.specs.Io.KnownBytes.{Consumes, IsAtEnd}
use Rattle.shm_debug.specs.Limits.{max_bytes}
use Rattle.shm_debug.specs.Reading.{reach, Plays, Fails}
use Rattle.shm_debug.proofs.ReplayLemmas.{SoFar, SoFar-end, SoFar-played, SoFar-written, within, read_failed, all_read, stopped_there, write_failed, all_told, ended_read, stopped_read}
use Rattle.shm_debug.proofs.replay_script.play_all.Goals as goal

pub returns-in_default-read_up_to-clause-ends : goal.returns-in_default-read_up_to-clause-ends
returns-in_default-read_up_to-clause-ends g c =
    let remaining = g.R.Read.remaining in
    let contents = g.W.Write.contents in
    read_failed (remaining c.args.reader.now) (remaining c.chunks.reader) (contents c.args.writer.now) (contents c.chunks.writer) c.chunks.output c.chunks.player c.chunks.invariant.0

pub returns-then-count-eq0-clause-ends : goal.returns-then-count-eq0-clause-ends
returns-then-count-eq0-clause-ends g c =
    let remaining = g.R.Read.remaining in
    let contents = g.W.Write.contents in
    let none : Consumes (remaining c.chunks.reader) (remaining c.read_up_to.new.reader) [] =
    subst (λ n. Consumes (remaining c.chunks.reader) (remaining c.read_up_to.new.reader) (take n c.read_up_to.new.chunk)) c.if-count-eq0.true c.in-Ok-read_up_to.ensures.bytes in
    let room : 0 < c.room.result = omega (arith, c.room.ensures.some) in
    let wide : 0 < length c.chunks.chunk = omega (arith, c.chunks.invariant.1) in
    let end : IsAtEnd (remaining c.read_up_to.new.reader) = c.in-Ok-read_up_to.ensures.end room wide c.if-count-eq0.true in
    all_read (remaining c.args.reader.now) (remaining c.read_up_to.new.reader) (contents c.args.writer.now) (contents c.chunks.writer) c.chunks.output c.chunks.player c.finish.result
    (SoFar-end (remaining c.args.reader.now) (remaining c.chunks.reader) (remaining c.read_up_to.new.reader) (contents c.args.writer.now) (contents c.chunks.writer)
    c.chunks.output c.chunks.player c.chunks.invariant.0 none) end c.finish.ensures

pub returns-in-Err-clause-ends : goal.returns-in-Err-clause-ends
returns-in-Err-clause-ends g c =
    let remaining = g.R.Read.remaining in
    let contents = g.W.Write.contents in
    let count = c.in-Ok-read_up_to.count in
    let bytes = take c.in-Ok-read_up_to.count c.read_up_to.new.chunk in
    let failed : Fails c.chunks.player (take c.in-Ok-read_up_to.count c.read_up_to.new.chunk) c.in-Err.fault c.chunks.output c.play.new.output =
    c.in-Err.ensures.err in
    stopped_there (remaining c.args.reader.now) (remaining c.chunks.reader) (remaining c.read_up_to.new.reader) (contents c.args.writer.now) (contents c.chunks.writer)
    c.chunks.output c.play.new.output c.chunks.player bytes c.in-Err.fault c.chunks.invariant.0 c.in-Ok-read_up_to.ensures.bytes failed

pub returns-in-Err-clause-limit : goal.returns-in-Err-clause-limit
returns-in-Err-clause-limit g c =
    let remaining = g.R.Read.remaining in
    let contents = g.W.Write.contents in
    let bytes = take c.in-Ok-read_up_to.count c.read_up_to.new.chunk in
    let fits : reach c.chunks.player + length (take c.in-Ok-read_up_to.count c.read_up_to.new.chunk) ≤ max_bytes =
    omega (arith, length-take c.in-Ok-read_up_to.count c.read_up_to.new.chunk, c.room.ensures.room, c.in-Ok-read_up_to.ensures.most) in
    within (remaining c.args.reader.now) (remaining c.chunks.reader) (remaining c.read_up_to.new.reader) (contents c.args.writer.now) (contents c.chunks.writer)
    c.chunks.output c.chunks.player bytes c.chunks.invariant.0 c.in-Ok-read_up_to.ensures.bytes fits

pub chunks-preserved : goal.chunks-preserved
chunks-preserved g c =
    let remaining = g.R.Read.remaining in
    let contents = g.W.Write.contents in
    let count = c.in-Ok-read_up_to.count in
    let played : Plays c.chunks.player (take c.in-Ok-read_up_to.count c.read_up_to.new.chunk) c.play.new.self c.chunks.output c.play.new.output =
    c.in-Ok-play.ensures.ok in
    let then_played = SoFar-played (remaining c.args.reader.now) (remaining c.chunks.reader) (remaining c.read_up_to.new.reader) (contents c.args.writer.now) (contents c.chunks.writer)
    c.chunks.output c.play.new.output c.chunks.player c.play.new.self (take count c.read_up_to.new.chunk) c.chunks.invariant.0 c.in-Ok-read_up_to.ensures.bytes played in (
      subst (λ o. SoFar (remaining c.args.reader.now) (remaining c.read_up_to.new.reader) (contents c.args.writer.now) (contents c.write_and_flush.new.writer) o c.play.new.self)
          (sym c.in-Ok-write_and_flush.ensures.none_left)
          (SoFar-written (remaining c.args.reader.now) (remaining c.read_up_to.new.reader) (contents c.args.writer.now) (contents c.chunks.writer) (contents c.write_and_flush.new.writer)
          c.play.new.output c.play.new.self then_played c.in-Ok-write_and_flush.ensures.ok),
      omega arith,
      c.in-Ok-write_and_flush.ensures.none_left,
    )

pub returns-in-Err-write_and_flush-clause-ends : goal.returns-in-Err-write_and_flush-clause-ends
returns-in-Err-write_and_flush-clause-ends g c =
    let remaining = g.R.Read.remaining in
    let contents = g.W.Write.contents in
    let count = c.in-Ok-read_up_to.count in
    let played : Plays c.chunks.player (take c.in-Ok-read_up_to.count c.read_up_to.new.chunk) c.play.new.self c.chunks.output c.play.new.output =
    c.in-Ok-play.ensures.ok in
    let then_played = SoFar-played (remaining c.args.reader.now) (remaining c.chunks.reader) (remaining c.read_up_to.new.reader) (contents c.args.writer.now) (contents c.chunks.writer)
    c.chunks.output c.play.new.output c.chunks.player c.play.new.self (take count c.read_up_to.new.chunk) c.chunks.invariant.0 c.in-Ok-read_up_to.ensures.bytes played in
    write_failed (remaining c.args.reader.now) (remaining c.read_up_to.new.reader) (contents c.args.writer.now) (contents c.chunks.writer) (contents c.write_and_flush.new.writer)
    c.play.new.output c.play.new.self c.in-Err-write_and_flush.ensures.err.0 then_played c.in-Err-write_and_flush.ensures.err.1

pub returns-in-Err-write_and_flush-clause-limit : goal.returns-in-Err-write_and_flush-clause-limit
returns-in-Err-write_and_flush-clause-limit g c =
    let remaining = g.R.Read.remaining in
    let contents = g.W.Write.contents in
    let bytes = take c.in-Ok-read_up_to.count c.read_up_to.new.chunk in
    let fits : reach c.chunks.player + length (take c.in-Ok-read_up_to.count c.read_up_to.new.chunk) ≤ max_bytes =
    omega (arith, length-take c.in-Ok-read_up_to.count c.read_up_to.new.chunk, c.room.ensures.room, c.in-Ok-read_up_to.ensures.most) in
    within (remaining c.args.reader.now) (remaining c.chunks.reader) (remaining c.read_up_to.new.reader) (contents c.args.writer.now) (contents c.chunks.writer)
    c.chunks.output c.chunks.player bytes c.chunks.invariant.0 c.in-Ok-read_up_to.ensures.bytes fits

pub returns-in_default-read_up_to-clause-read : goal.returns-in_default-read_up_to-clause-read
returns-in_default-read_up_to-clause-read g c =
    let remaining = g.R.Read.remaining in
    let contents = g.W.Write.contents in
    all_told (remaining c.args.reader.now) (remaining c.chunks.reader) (remaining c.read_up_to.new.reader) (contents c.args.writer.now) (contents c.chunks.writer)
    c.chunks.output c.chunks.player c.chunks.invariant.0 c.chunks.invariant.2 c.room.ensures.none_yet c.in_default-read_up_to.ensures.err

pub returns-then-count-eq0-clause-read : goal.returns-then-count-eq0-clause-read
returns-then-count-eq0-clause-read g c =
    let remaining = g.R.Read.remaining in
    let contents = g.W.Write.contents in
    ended_read (remaining c.args.reader.now) (remaining c.read_up_to.new.reader) (contents c.args.writer.now) (contents c.chunks.writer)
    c.chunks.output c.chunks.player c.finish.result c.finish.ensures

pub returns-in-Err-clause-read : goal.returns-in-Err-clause-read
returns-in-Err-clause-read g c =
    let remaining = g.R.Read.remaining in
    let contents = g.W.Write.contents in
    stopped_read (remaining c.args.reader.now) (remaining c.read_up_to.new.reader) (contents c.args.writer.now) (contents c.chunks.writer)
    c.play.new.output c.chunks.player (take c.in-Ok-read_up_to.count c.read_up_to.new.chunk) c.chunks.output c.play.new.output c.in-Err.fault c.in-Err.ensures.err
