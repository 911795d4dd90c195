use Rattle.std.proofs.Common.{◌≡◌, ◌<◌, ◌∙◌, ap, length, inl, inr, arith}
use Rattle.std.proofs.lemmas.Bool.Decides.{nat_tests}
use Rattle.shm_debug.proofs.PlayerLemmas.{bad_ending, good_ending, empty-from}
use Rattle.shm_debug.specs.Reading.{Moment}
use Rattle.shm_debug.specs.Replay.{summary_at}
use Rattle.shm_debug.proofs.script_player.Player.finish.Goals as goal

pub returns-then-self-eq0 : goal.returns-then-self-eq0
returns-then-self-eq0 g c =
    bad_ending c.self.inside.lines c.self.inside.session c.self.inside.line.items c.args.self.now c.self.invariant c.self.view_is (inl c.if-self-eq0.true)

pub returns-then-not-is_empty : goal.returns-then-not-is_empty
returns-then-not-is_empty g c =
    let some : 0 < length c.self.inside.line.items = grind (arith, nat_tests, c.self.inside.line.ok.0) in
    bad_ending c.self.inside.lines c.self.inside.session c.self.inside.line.items c.args.self.now c.self.invariant c.self.view_is (inr some)

pub returns : goal.returns
returns g c =
    let none : length c.self.inside.line.items ≡ 0 = grind (arith, nat_tests, c.self.inside.line.ok.0) in
    let some : 0 < c.self.inside.lines = omega arith in (
      good_ending c.self.inside.lines c.self.inside.session c.self.inside.line.items c.args.self.now c.self.invariant c.self.view_is
          some (empty-from c.self.inside.line.items none),
      c.summary.ensures ∙ ap (λ (m : Moment). summary_at m.lines m.standing) c.self.view_is,
    )
