use Rattle.std.proofs.Common.{◌≡◌, ℕ, List, [], refl}
use Rattle.std.proofs.lemmas.Result.{IfOk-weaker, IfErr-weaker}
use Rattle.shm_debug.specs.Reading.{gathered, Plays, Fails}
use Rattle.shm_debug.proofs.ReadingLemmas.{Plays-none}
use Rattle.shm_debug.proofs.PlayerLemmas.{one_more, fails_there, rest_gathered, rest_fails}
use Rattle.shm_debug.proofs.script_player.Player.play.Goals as goal

pub lines-init : goal.lines-init
lines-init g c = ([], refl, Plays-none c.args.self.now c.args.output.now)

pub lines-preserved : goal.lines-preserved
lines-preserved g c =
    one_more c.args.bytes.now c.lines.rest.now c.args.self.now c.lines.self c.args.output.now c.lines.output c.lines.invariant
    c.in-Some.line.now c.in-Some.others.now c.end_line.new.self c.end_line.new.output c.in-Some.ensures.cut c.in-Ok.ensures.ok

pub returns-in-Err-clause-err : goal.returns-in-Err-clause-err
returns-in-Err-clause-err g c =
    fails_there c.args.bytes.now c.lines.rest.now c.args.self.now c.lines.self c.args.output.now c.lines.output c.lines.invariant
    c.in-Some.line.now c.in-Some.others.now c.in-Err.fault c.end_line.new.output c.in-Some.ensures.cut c.in-Err.ensures.err

pub returns-in_default-clause-ok : goal.returns-in_default-clause-ok
returns-in_default-clause-ok g c =
    let start = c.args.self.now in
    IfOk-weaker c.gather.result (λ _. c.gather.new.self ≡ gathered c.lines.self c.lines.rest.now) (λ _. Plays start c.args.bytes.now c.gather.new.self c.args.output.now c.lines.output)
    (λ _ is. rest_gathered c.args.bytes.now c.lines.rest.now start c.lines.self c.args.output.now c.lines.output c.lines.invariant c.gather.new.self is)
    c.gather.ensures.ok

pub returns-in_default-clause-err : goal.returns-in_default-clause-err
returns-in_default-clause-err g c =
    let start = c.args.self.now in
    IfErr-weaker c.gather.result (λ fault. (text : List ℕ) → Fails c.lines.self c.lines.rest.now fault text text) (λ fault. Fails start c.args.bytes.now fault c.args.output.now c.lines.output)
    (λ fault p. rest_fails c.args.bytes.now c.lines.rest.now start c.lines.self c.args.output.now c.lines.output c.lines.invariant fault p)
    c.gather.ensures.err
