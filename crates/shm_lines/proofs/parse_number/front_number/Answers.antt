use Rattle.std.proofs.Common.{◌≡◌, ◌==◌, ◌&&◌, ◌∙◌, ℕ, List, true, false, All, get_or, length, take, take_all, sym, ap, subst, arith}
use Rattle.std.proofs.lemmas.Grind.{common_steps}
use Rattle.std.proofs.lemmas.Bool.Decides.{nat_tests}
use Rattle.std.proofs.lemmas.List.{take_rest}
use Rattle.std.proofs.lemmas.List.Elements.{All-more}
use Rattle.std.proofs.lemmas.List.Folds.{list_all_more}
use Rattle.std.proofs.lemmas.List.Splits.{slice_split_none}
use Rattle.std.specs.Char.{is_ascii_digit}
use Rattle.std.specs.List.{list_all}
use Rattle.std.specs.Str.Parse.{digits_value}
use Rattle.shm_lines.specs.Words as said
use Rattle.shm_lines.proofs.FrontLemmas.{number_from, plain_front}
use Rattle.shm_lines.proofs.NumberLemmas.{value_step}
use Rattle.shm_lines.proofs.WordLemmas.{slice_split-read}
use Rattle.shm_lines.proofs.parse_number.front_number.Goals as goal

pub digits-preserved : goal.digits-preserved
digits-preserved c =
    let line = c.args.line.now in
    let i = c.digits.at in
    let is : is_ascii_digit (get_or line i 0) ≡ true = sym c.if-not-is_ascii_digit.ensures.value in
    let other : (get_or line i 0 == 32) ≡ false = grind (arith, nat_tests) in (
      value_step line i c.digits.value is c.digits-test.true c.digits.invariant.0,
      omega arith,
      list_all_more is_ascii_digit line i 0 c.digits-test.true ∙ ap (λ b. b && is_ascii_digit (get_or line i 0)) c.digits.invariant.2 ∙ is,
      All-more (λ byte. (byte == 32) ≡ false) line i 0 c.digits-test.true c.digits.invariant.3 other,
    )

pub returns-then-is_plain : goal.returns-then-is_plain
returns-then-is_plain c =
    let line = c.args.line.now in
    let at = c.digits.at in
    let here : 32 ≡ get_or line at 32 = grind (arith, common_steps) in
    let is : (32 == 32) ≡ true = grind (arith, nat_tests) in
    let plain = plain_front line at (omega (arith, c.digits-test.true)) (sym c.is_plain.ensures ∙ c.if-is_plain.true) c.digits.invariant.2 in (
      take at line,
      rw take_rest (slice_split-read (λ byte. byte == 32) line at 32 c.digits-test.true here is c.digits.invariant.3),
      number_from (take at line) c.digits.value plain c.digits.invariant.0 c.digits.invariant.1,
    )

pub returns-then-is_plain-2 : goal.returns-then-is_plain-2
returns-then-is_plain-2 c =
    let line = c.args.line.now in
    let all = take_all c.digits.at line c.digits-test.false in
    let whole = take_all (length line) line (omega arith) in
    let digits = ap (λ (l : List ℕ). list_all is_ascii_digit l) (whole ∙ sym all) ∙ c.digits.invariant.2 in
    let plain = ap said.is_plain (sym whole) ∙ plain_front line (length line) (omega arith) (sym c.is_plain-2.ensures ∙ c.if-is_plain-2.true) digits in (
      line,
      slice_split_none (λ byte. byte == 32) line (subst (All (λ byte. (byte == 32) ≡ false)) all c.digits.invariant.3),
      number_from line c.digits.value plain (c.digits.invariant.0 ∙ ap (digits_value 10) all) c.digits.invariant.1,
    )
