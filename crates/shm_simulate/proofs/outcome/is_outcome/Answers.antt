use Rattle.std.proofs.Common.{◌≡◌, length, false, sym, ◌∙◌, arith}
use Rattle.std.proofs.lemmas.Bool.Decides.{nat_tests}
use Rattle.shm_simulate.proofs.OutcomeLemmas.{agree-same, long-other}
use Rattle.shm_simulate.proofs.outcome.is_outcome.Goals as goal

pub returns-then-given-lines : goal.returns-then-given-lines
returns-then-given-lines c = c.agree.ensures ∙ agree-same c.args.given.now c.args.lines.now c.if-given-lines.true

pub returns-else-given-lines : goal.returns-else-given-lines
returns-else-given-lines c =
    let differ : length c.args.given.now ≡ length c.args.lines.now → ⊥ = c.if-given-lines.false in
    let no : lib.Dec.eqb (length c.args.given.now) (length c.args.lines.now) ≡ false = grind (arith, nat_tests) in
    no ∙ sym (long-other c.args.given.now c.args.lines.now differ)
