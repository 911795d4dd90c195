use Rattle.std.proofs.Common.{◌==◌, ◌≡◌, false, true, get_or, take_all, arith}
use Rattle.std.proofs.lemmas.Grind.{common_steps}
use Rattle.std.proofs.lemmas.Bool.Decides.{nat_tests}
use Rattle.std.proofs.lemmas.List.{take_rest}
use Rattle.std.proofs.lemmas.List.Elements.{All-more}
use Rattle.std.proofs.lemmas.List.Splits.{slice_split_none}
use Rattle.shm_lines.proofs.WordLemmas.{slice_split-read}
use Rattle.shm_lines.proofs.split_words.split_at.Goals as goal

pub returns-then-byte-separator-clause-parts : goal.returns-then-byte-separator-clause-parts
returns-then-byte-separator-clause-parts c =
    let here : c.args.separator ≡ get_or c.args.bytes.now c.loop-at.at c.args.separator = grind (arith, common_steps) in
    let is : (c.args.separator == c.args.separator) ≡ true = grind (arith, nat_tests) in
    rw take_rest (slice_split-read (λ byte. byte == c.args.separator) c.args.bytes.now c.loop-at.at c.args.separator c.loop-at-test.true here is c.loop-at.invariant)

pub loop-at-preserved : goal.loop-at-preserved
loop-at-preserved c =
    let other : (get_or c.args.bytes.now c.loop-at.at 0 == c.args.separator) ≡ false = grind (arith, nat_tests) in
    All-more (λ byte. (byte == c.args.separator) ≡ false) c.args.bytes.now c.loop-at.at 0 c.loop-at-test.true c.loop-at.invariant other

pub returns-clause-parts : goal.returns-clause-parts
returns-clause-parts c = slice_split_none (λ byte. byte == c.args.separator) c.args.bytes.now (rw (take_all _ _ c.loop-at-test.false) at c.loop-at.invariant)
