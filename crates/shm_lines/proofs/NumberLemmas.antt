-- The value of digits, one more at a time.
use Rattle.std.proofs.Common.{◌≡◌, ℕ, ◌+◌, ◌-◌, ◌*◌, ◌<◌, ◌≤◌, true, false, List, length, take, get_or, ◌⊎◌, inl, inr, nat_lt, arith}
use Rattle.std.specs.List.{list_all}
use Rattle.std.specs.Char.{is_ascii_digit}
use Rattle.std.specs.Int.{IsInRange}
use Rattle.std.specs.Str.Parse.{digits_value}
use Rattle.std.proofs.lemmas.Bool.{cases_Bool}
use Rattle.std.proofs.lemmas.Bool.Decides.{nat_tests}
use Rattle.std.proofs.lemmas.List.Folds.{list_all_at}
use Rattle.std.proofs.lemmas.Str.{digit_value_digit}
use Rattle.std.proofs.lemmas.Int.Digits.{digits_value_more}
use Rattle.std.proofs.lemmas.Str.Parse.{digits_value-take-le}

digit_range : (c : ℕ) → is_ascii_digit c ≡ true → IsInRange 48 57 c
digit_range c e = grind (arith, nat_tests)

pub digit_at : (w : List ℕ) (i : ℕ) → list_all is_ascii_digit w ≡ true → i < length w → IsInRange 48 57 (get_or w i 0)
digit_at w i h lt = go (cases_Bool (is_ascii_digit (get_or w i 0)))
  where
    go : (is_ascii_digit (get_or w i 0) ≡ true) ⊎ (is_ascii_digit (get_or w i 0) ≡ false) → IsInRange 48 57 (get_or w i 0)
    go (inl e) = digit_range (get_or w i 0) e
    go (inr e) = let none = list_all_at is_ascii_digit w i 0 lt e in cc

pub value_step : (w : List ℕ) (i v : ℕ) → is_ascii_digit (get_or w i 0) ≡ true → i < length w → v ≡ digits_value 10 (take i w)
    → v * 10 + (get_or w i 0 - 48) ≡ digits_value 10 (take (i + 1) w)
value_step w i v h lt e =
    let d = digit_value_digit (get_or w i 0) (digit_range (get_or w i 0) h) in
    omega (arith, digits_value_more 10 w i lt, d)

-- digits of which a front is too great are too great
pub value_beyond : (w : List ℕ) (i most : ℕ) → most ≤ digits_value 10 (take i w) → nat_lt (digits_value 10 w) most ≡ false
value_beyond w i most h =
    let more = digits_value-take-le 10 w i (omega arith) in
    grind (arith, nat_tests)
