use Rattle.std.proofs.Common.{◌≡◌, ◌+◌, [], ◌∷◌, length, ap, ◌∙◌, arith}
use Rattle.std.proofs.lemmas.Bool.Decides.{nat_tests}
use Rattle.shm_debug.specs.Reading.{Moment}
use Rattle.shm_debug.specs.Script.{read_line}
use Rattle.shm_debug.proofs.ReadingLemmas.{Fails-more}
use Rattle.shm_debug.proofs.PlayerLemmas.{empty-from, in_place, completed, not_completed}
use Rattle.shm_debug.proofs.script_player.Player.complete.Goals as goal

pub returns-then-is_empty-clause-ok : goal.returns-then-is_empty-clause-ok
returns-then-is_empty-clause-ok g c =
    let none : length c.self.inside.line.items ≡ 0 = grind (arith, nat_tests, c.self.inside.line.ok.0) in
    completed c.self.inside.lines c.self.inside.session c.self.inside.line.items c.args.self.now c.self.invariant c.self.view_is
    c.args.bytes.now c.read_line.result c.requires c.lines_have_one_spelling.ensures.read
    (c.read_line.ensures ∙ in_place c.self.inside.lines c.self.inside.session c.self.inside.line.items c.args.self.now c.self.invariant c.self.view_is
    c.args.bytes.now (empty-from c.self.inside.line.items none))

pub returns-then-is_empty-clause-err : goal.returns-then-is_empty-clause-err
returns-then-is_empty-clause-err g c =
    let none : length c.self.inside.line.items ≡ 0 = grind (arith, nat_tests, c.self.inside.line.ok.0) in
    not_completed c.self.inside.lines c.self.inside.session c.self.inside.line.items c.args.self.now c.self.invariant c.self.view_is
    c.args.bytes.now c.read_line.result c.requires
    (c.read_line.ensures ∙ in_place c.self.inside.lines c.self.inside.session c.self.inside.line.items c.args.self.now c.self.invariant c.self.view_is
    c.args.bytes.now (empty-from c.self.inside.line.items none))

pub returns-in-Ok-clause-ok : goal.returns-in-Ok-clause-ok
returns-in-Ok-clause-ok g c =
    completed c.self.inside.lines c.self.inside.session c.self.inside.line.items c.args.self.now c.self.invariant c.self.view_is
    c.args.bytes.now c.read_gathered.result c.requires c.lines_have_one_spelling.ensures.read
    (c.read_gathered.ensures ∙ ap (λ (m : Moment). read_line (m.lines + 1) m.line) c.in-Ok.ensures.ok)

pub returns-in-Ok-clause-err : goal.returns-in-Ok-clause-err
returns-in-Ok-clause-err g c =
    not_completed c.self.inside.lines c.self.inside.session c.self.inside.line.items c.args.self.now c.self.invariant c.self.view_is
    c.args.bytes.now c.read_gathered.result c.requires
    (c.read_gathered.ensures ∙ ap (λ (m : Moment). read_line (m.lines + 1) m.line) c.in-Ok.ensures.ok)

pub returns-in-Err-clause-err : goal.returns-in-Err-clause-err
returns-in-Err-clause-err g c = λ text. Fails-more c.args.self.now c.args.bytes.now (10 ∷ []) text text c.in-Err.fault (c.in-Err.ensures.err text)
