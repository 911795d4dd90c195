use Rattle.std.proofs.Common.{◌≡◌, ◌+◌, length, refl, arith}
use Rattle.std.proofs.lemmas.Bool.Decides.{nat_tests}
use Rattle.shm_journal.proofs.Gathering.{ended_here}
use Rattle.shm_journal.proofs.line_reader.Lines.end_line.Goals as goal

pub returns-then-is_empty-clause-ok : goal.returns-then-is_empty-clause-ok
returns-then-is_empty-clause-ok g c =
    let len : c.len-2.result ≡ length c.args.self.now.front.items = omega (arith, c.args.self.now.front.ok.0, c.len-2.ensures) in
    let none : length c.args.self.now.front.items ≡ 0 = grind (arith, nat_tests, c.args.self.now.front.ok.0, c.if-is_empty.true, c.is_empty.ensures) in
    let whole : c.in-Some.whole ≡ c.args.self.now.whole + (c.len-2.result + c.args.len + 1) = omega (arith, c.in-Some.ensures) in
    ended_here c.args.self.now _ c.args.len c.len-2.result none len c.requires.within c.requires.cut c.requires.unended refl refl refl refl refl whole
