use Rattle.std.proofs.Common.{◌≡◌, ◌+◌, ◌≤◌, ◌∙◌, ◌&&◌, Bool, None, Some, true, false, cond, get_or, refl, take, sym, ap, arith}
use Rattle.std.specs.Char.{is_ascii_digit}
use Rattle.std.specs.List.{list_all}
use Rattle.std.specs.Str.Parse.{digits_value}
use Rattle.std.proofs.lemmas.List.Folds.{list_all_more}
use Rattle.shm_lines.proofs.NumberLemmas.{value_step, value_beyond}
use Rattle.shm_lines.proofs.parse_number.value_of.Goals as goal

pub digits-preserved : goal.digits-preserved
digits-preserved c =
    let word = c.args.word.now in
    let i = c.digits.byte-index in
    let is : is_ascii_digit (get_or word i 0) ≡ true = sym c.if-not-is_ascii_digit.ensures.value in (
      value_step word i c.digits.value is c.digits-test.true c.digits.invariant.0,
      omega arith,
      list_all_more is_ascii_digit word i 0 c.digits-test.true ∙ ap (λ b. b && is_ascii_digit (get_or word i 0)) c.digits.invariant.2 ∙ is,
    )

either-way : {X : Type 0} (b : Bool) (x : X) → cond b x x ≡ x
either-way true x = refl
either-way false x = refl

pub returns-then-value : goal.returns-then-value
returns-then-value c =
    let word = c.args.word.now in
    let i = c.digits.byte-index in
    let is : is_ascii_digit (get_or word i 0) ≡ true = sym c.if-not-is_ascii_digit.ensures.value in
    let step = value_step word i c.digits.value is c.digits-test.true c.digits.invariant.0 in
    let beyond : 18446744073709551616 ≤ digits_value 10 (take (i + 1) word) = omega arith in
    sym (ap (λ b. cond (list_all is_ascii_digit word) (cond b (Some (digits_value 10 word)) None) None) (value_beyond word (i + 1) 18446744073709551616 beyond)
    ∙ either-way (list_all is_ascii_digit word) None)
