-- A number at a line's front.
use Rattle.std.proofs.Common.{◌≡◌, ◌==◌, ◌<◌, ◌≤◌, ◌^◌, ◌&&◌, ℕ, zero, suc, Bool, true, false, not, cond, nat_lt, List, [], ◌∷◌, length, take, slice_index, Some, None, refl, sym, ap, ◌∙◌, arith}
use Rattle.std.proofs.lemmas.Bool.{false≢true}
use Rattle.std.proofs.lemmas.Bool.Decides.{nat_tests}
use Rattle.std.proofs.lemmas.List.{length-take-le}
use Rattle.std.specs.Char.{is_ascii_digit}
use Rattle.std.specs.List.{list_all}
use Rattle.std.specs.Str.Parse.{digits_value}
use Rattle.shm_lines.specs.Words as said

-- so many digits at the front are a plain number
pub plain_front : (line : List ℕ) (n : ℕ) → n ≤ length line → (nat_lt 0 n && not (nat_lt 1 n && (slice_index line 0 == 48))) ≡ true → list_all is_ascii_digit (take n line) ≡ true → said.is_plain (take n line) ≡ true
plain_front line zero within plain digits = absurd (false≢true plain)
plain_front [] (suc k) within plain digits = absurd (none within)
  where
    none : suc k ≤ 0 → ⊥
    none h = omega (arith, h)
plain_front (x ∷ xs) (suc k) within plain digits =
    ap (λ n. nat_lt 0 n && not (nat_lt 1 n && (x == 48)) && list_all is_ascii_digit (x ∷ take k xs)) (length-take-le (suc k) (x ∷ xs) within)
    ∙ ap (λ b. nat_lt 0 (suc k) && not (nat_lt 1 (suc k) && (x == 48)) && b) digits
    ∙ both (nat_lt 0 (suc k)) (not (nat_lt 1 (suc k) && (x == 48))) plain
  where
    both : (a b : Bool) → (a && b) ≡ true → (a && b && true) ≡ true
    both true true h = refl
    both true false h = h
    both false b h = h

pub number_from : (word : List ℕ) (value : ℕ) → said.is_plain word ≡ true → value ≡ digits_value 10 word → value < 2 ^ 32 → said.number_of word ≡ Some value
number_from word value plain is small =
    ap (λ b. cond b (cond (nat_lt (digits_value 10 word) (2 ^ 32)) (Some (digits_value 10 word)) None) None) plain
    ∙ ap (λ n. cond (nat_lt n (2 ^ 32)) (Some n) None) (sym is)
    ∙ ap (λ b. cond b (Some value) None) below
  where
    below : nat_lt value (2 ^ 32) ≡ true
    below = grind (arith, nat_tests)
