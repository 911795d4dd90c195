use Rattle.std.proofs.Common.{Ok, ◌≡◌, ◌+◌, ◌≤◌, ℕ, [], None, length, length-take, take, refl, sym, subst, arith}
use Rattle.std.proofs.lemmas.Result.{IfOk-weaker}
use Rattle.std.specs.Io.KnownBytes.{Consumes}
use Rattle.shm_debug.specs.Limits.{max_bytes}
use Rattle.shm_debug.specs.Reading.{reach, start, Ended, Moment, Plays}
use Rattle.shm_debug.proofs.ReplayLemmas.{SoFar, SoFar-none, SoFar-played, SoFar-written, within}
use Rattle.shm_debug.specs.declared.script_summary_and_error.Summary.{Summary}
use Rattle.shm_draw.specs.Drawn.{BeganRight}
use Rattle.shm_draw.proofs.Scripts.{began}
use Rattle.shm_draw.proofs.draw_script.read_script.Goals as goal

pub chunks-init : goal.chunks-init
chunks-init g c =
    let remaining = g.R.Read.remaining c.args.reader.now in (
      subst (SoFar remaining remaining None None c.in-Ok.told) (sym c.in-Ok-new.ensures)
          (subst (λ told. SoFar remaining remaining None None told start) (sym c.in-Ok.ensures) (SoFar-none remaining None)),
      refl,
      c.in-Ok.ensures,
    )

pub returns-then-count-eq0-clause-limit : goal.returns-then-count-eq0-clause-limit
returns-then-count-eq0-clause-limit g c =
    let remaining = g.R.Read.remaining in
    let none : Consumes (remaining c.chunks.reader) (remaining c.read_up_to.new.reader) [] =
    subst (λ n. Consumes (remaining c.chunks.reader) (remaining c.read_up_to.new.reader) (take n c.read_up_to.new.chunk)) c.if-count-eq0.true c.in-Ok-read_up_to.ensures.bytes in
    let fits : reach c.chunks.player + length {A = ℕ} [] ≤ max_bytes = omega (arith, c.room.ensures.room) in
    within (remaining c.args.reader.now) (remaining c.chunks.reader) (remaining c.read_up_to.new.reader) None None c.chunks.told c.chunks.player [] c.chunks.invariant.0 none fits

pub returns-in-Err-clause-limit : goal.returns-in-Err-clause-limit
returns-in-Err-clause-limit g c =
    let remaining = g.R.Read.remaining in
    let bytes = take c.in-Ok-read_up_to.count c.read_up_to.new.chunk in
    let fits : reach c.chunks.player + length (take c.in-Ok-read_up_to.count c.read_up_to.new.chunk) ≤ max_bytes =
    omega (arith, length-take c.in-Ok-read_up_to.count c.read_up_to.new.chunk, c.room.ensures.room, c.in-Ok-read_up_to.ensures.most) in
    within (remaining c.args.reader.now) (remaining c.chunks.reader) (remaining c.read_up_to.new.reader) None None c.chunks.told c.chunks.player bytes c.chunks.invariant.0
    c.in-Ok-read_up_to.ensures.bytes fits

pub chunks-preserved : goal.chunks-preserved
chunks-preserved g c =
    let remaining = g.R.Read.remaining in
    let count = c.in-Ok-read_up_to.count in
    let played : Plays c.chunks.player (take c.in-Ok-read_up_to.count c.read_up_to.new.chunk) c.play.new.self c.chunks.told c.play.new.output =
    c.in-Ok-play.ensures.ok in
    let then_played = SoFar-played (remaining c.args.reader.now) (remaining c.chunks.reader) (remaining c.read_up_to.new.reader) None None
    c.chunks.told c.play.new.output c.chunks.player c.play.new.self (take count c.read_up_to.new.chunk) c.chunks.invariant.0 c.in-Ok-read_up_to.ensures.bytes played in (
      subst (λ o. SoFar (remaining c.args.reader.now) (remaining c.read_up_to.new.reader) None None o c.play.new.self)
          (sym c.clear.ensures)
          (SoFar-written (remaining c.args.reader.now) (remaining c.read_up_to.new.reader) None None None c.play.new.output c.play.new.self then_played tt),
      omega arith,
      c.clear.ensures,
    )

pub returns-then-count-eq0-clause-began : goal.returns-then-count-eq0-clause-began
returns-then-count-eq0-clause-began g c =
    let remaining = g.R.Read.remaining in
    IfOk-weaker c.whole.result (λ p. (p ≡ c.chunks.player) × ((summary : Summary) × Ended c.chunks.player (Ok summary))) (λ p. BeganRight p.standing)
    (λ p is. subst (λ (m : Moment). BeganRight m.standing) (sym is.0) (began (λ bytes line e. (c.lines_have_one_spelling.ensures.read bytes line e).0)
    (remaining c.args.reader.now) (remaining c.chunks.reader) None None c.chunks.told c.chunks.player c.chunks.invariant.0))
    c.whole.ensures.ok
