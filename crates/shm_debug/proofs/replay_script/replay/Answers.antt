use Rattle.std.proofs.Common.{ℕ, List}
use Rattle.std.specs.Io.KnownBytes.{Appends}
use Rattle.std.proofs.KnownBytes.{Appends-kept}
use Rattle.shm_debug.specs.Script.{script_of}
use Rattle.shm_debug.specs.Replay.{Ends, Pauses}
use Rattle.shm_debug.specs.Told.{ToldLast}
use Rattle.shm_debug.proofs.OutputLemmas.{told-last}
use Rattle.shm_debug.proofs.ReplayLemmas.{IfSome-map, told_read}
use Rattle.shm_debug.proofs.replay_script.replay.Goals as goal

pub returns-clause-ends : goal.returns-clause-ends
returns-clause-ends g c =
    let contents = g.W.Write.contents in
    let before = contents c.args.writer.now in
    let then_written = contents c.play_all-played.new.writer in
    let told = contents c.write_rest-ended.new.writer in
    let last = contents c.flush_at_end-2.new.writer in
    IfSome-map (g.R.Read.remaining c.args.reader.now)
    (λ bytes. Pauses before then_written c.play_all-played.new.output (script_of bytes) c.play_all-played.result)
    (λ bytes. (text : List ℕ) × Appends before last text × Ends (script_of bytes) c.flush_at_end-2.result text)
    c.play_all-played.ensures.ends
    (λ bytes p.
    let w = c.write_rest-ended.ensures.ends before (script_of bytes) p in
    (w.0, Appends-kept before told last w.0 w.1 c.flush_at_end-2.ensures.keeps, c.flush_at_end-2.ensures.ends (script_of bytes) w.0 w.2))

pub returns-clause-told_last : goal.returns-clause-told_last
returns-clause-told_last g c =
    let contents = g.W.Write.contents in
    let before = contents c.args.writer.now in
    let then_written = contents c.play_all-played.new.writer in
    let told = contents c.write_rest-ended.new.writer in
    let last = contents c.flush_at_end-2.new.writer in
    IfSome-map (g.R.Read.remaining c.args.reader.now)
    (λ bytes. Pauses before then_written c.play_all-played.new.output (script_of bytes) c.play_all-played.result)
    (λ bytes. (text : List ℕ) × Appends before last text × ToldLast (script_of bytes) c.flush_at_end-2.result text)
    c.play_all-played.ensures.ends
    (λ bytes p.
    let w = c.write_rest-ended.ensures.ends before (script_of bytes) p in (
      w.0,
      Appends-kept before told last w.0 w.1 c.flush_at_end-2.ensures.keeps,
      told-last (script_of bytes) c.flush_at_end-2.result w.0 (c.every_script_keeps_the_promise.ensures.last bytes) (c.flush_at_end-2.ensures.ends (script_of bytes) w.0 w.2),
    ))

pub returns-clause-read : goal.returns-clause-read
returns-clause-read g c =
    let remaining = g.R.Read.remaining in
    let contents = g.W.Write.contents in
    told_read (remaining c.args.reader.now) (remaining c.play_all-played.new.reader) (contents c.args.writer.now) (contents c.play_all-played.new.writer)
    (contents c.write_rest-ended.new.writer) (contents c.flush_at_end-2.new.writer) c.play_all-played.new.output c.play_all-played.result c.write_rest-ended.result c.flush_at_end-2.result
    c.play_all-played.ensures.read c.write_rest-ended.ensures.same c.write_rest-ended.ensures.all c.flush_at_end-2.ensures.keeps c.flush_at_end-2.ensures.same
