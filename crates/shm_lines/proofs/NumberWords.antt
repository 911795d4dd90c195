-- Numbers as words: a word that is read as a number is the number as it is printed, and what is printed is read.
use Rattle.std.proofs.Common.{◌≡◌, ℕ, zero, suc, lit<, rules, ◌^◌, ◌<◌, ◌≤◌, ◌==◌, Bool, true, false, List, length, get_or, Option, None, Some, cond, nat_lt, refl, sym, ap, subst, ◌∙◌, arith}
use Rattle.std.specs.List.{list_all}
use Rattle.std.specs.Char.{is_ascii_digit}
use Rattle.std.specs.Fmt.{decimal}
use Rattle.std.specs.Int.{IsInRange}
use Rattle.std.specs.Str.Parse.{digits_value}
use Rattle.std.proofs.lemmas.Bool.Decides.{nat_tests}
use Rattle.std.proofs.lemmas.List.Elements.{All-from_get_or}
use Rattle.std.proofs.lemmas.Str.Parse.{IsNumeralModel, numerals_by_value}
use Rattle.std.proofs.lemmas.Fmt.{decimal-digits_value, digits_decimal, digits_value-decimal, decimal_digit, first_decimal, decimal_nonempty}
use Rattle.shm_lines.proofs.NumberLemmas.{digit_at}
use Rattle.shm_lines.proofs.StepLemmas.{NoBlank, lt-true, lt-test}
use Rattle.shm_lines.specs.Words.{IsNumber, IsWide, is_plain, number_below, number_of, wide_of}

-- what is read is printed so, and what is printed so is read
pub record IsPrinter {A : Type 0} (read : List ℕ → Option A) (Is : A → Type 0) (print : A → List ℕ) : Type 0 where
  pub reads : (word : List ℕ) (x : A) → read word ≡ Some x → (word ≡ print x) × Is x
  pub prints : (x : A) → Is x → read (print x) ≡ Some x
  pub unparted : (x : A) → Is x → NoBlank (print x)

own : IsNumeralModel (λ ds. list_all is_ascii_digit ds ≡ true) (digits_value 10)
own = numerals_by_value (λ ds. list_all is_ascii_digit ds ≡ true) (search rules)

plain-parts : (word : List ℕ) → is_plain word ≡ true → (0 < length word) × (get_or word 0 0 ≡ 48 → length word ≡ 1) × (list_all is_ascii_digit word ≡ true)
plain-parts word h = grind (arith, nat_tests)

plain-from : (word : List ℕ) → 0 < length word → (get_or word 0 0 ≡ 48 → length word ≡ 1) → list_all is_ascii_digit word ≡ true → is_plain word ≡ true
plain-from word some first digits = grind (arith, nat_tests)

value-of : (word : List ℕ) (plain small : Bool) (n : ℕ) → cond plain (cond small (Some (digits_value 10 word)) None) None ≡ Some n
    → (plain ≡ true) × (small ≡ true) × (digits_value 10 word ≡ n)
value-of word true true n h = (refl, refl, cc)
value-of word true false n h = absurd (cc)
value-of word false small n h = absurd (cc)

number_below-is : (most : ℕ) (word : List ℕ) (n : ℕ) → most ≤ 2 ^ 64 → number_below most word ≡ Some n → (word ≡ decimal n) × (n < most)
number_below-is most word n h e =
    let v = value-of word (is_plain word) (nat_lt (digits_value 10 word) most) n e in
    let p = plain-parts word v.0 in
    let below : digits_value 10 word < most = lt-true (digits_value 10 word) most v.1 in
    let wide : digits_value 10 word < 2 ^ 64 = omega arith in
    (sym (decimal-digits_value own word p.2 p.0 p.1 wide) ∙ ap decimal v.2, subst (λ k. k < most) v.2 below)

leading : (n : ℕ) → n < 2 ^ 64 → get_or (decimal n) 0 0 ≡ 48 → length (decimal n) ≡ 1
leading zero h e = ap length (decimal_digit 0 (lit< tt))
leading (suc n) h e = let first = first_decimal (suc n) (omega arith) h in absurd (omega arith)

number_below-decimal : (most n : ℕ) → n < 2 ^ 64 → n < most → number_below most (decimal n) ≡ Some n
number_below-decimal most n wide below =
    let plain : is_plain (decimal n) ≡ true = plain-from (decimal n) (decimal_nonempty n wide) (leading n wide) (digits_decimal own n wide) in
    let value : digits_value 10 (decimal n) ≡ n = digits_value-decimal own n wide in
    ap (λ b. cond b (cond (nat_lt (digits_value 10 (decimal n)) most) (Some (digits_value 10 (decimal n))) None) None) plain
    ∙ ap (λ v. cond (nat_lt v most) (Some v) None) value
    ∙ ap (λ b. cond b (Some n) None) (lt-test n most below)

NoBlank-decimal : (n : ℕ) → n < 2 ^ 64 → NoBlank (decimal n)
NoBlank-decimal n h = All-from_get_or (λ byte. (byte == 32) ≡ false) (decimal n) 0 (λ i lt. apart (get_or (decimal n) i 0) (digit_at (decimal n) i (digits_decimal own n h) lt))
  where
    apart : (c : ℕ) → IsInRange 48 57 c → (c == 32) ≡ false
    apart c r = grind (arith, nat_tests)

below : (most : ℕ) → most ≤ 2 ^ 64 → IsPrinter (number_below most) (λ n. n < most) decimal
below most h = record {
  reads = λ word n e. number_below-is most word n h e;
  prints = λ n lt. number_below-decimal most n (omega (arith, h, lt)) lt;
  unparted = λ n lt. NoBlank-decimal n (omega (arith, h, lt));
}

pub number : IsPrinter number_of IsNumber decimal
number = below (2 ^ 32) (omega arith)

pub wide : IsPrinter wide_of IsWide decimal
wide = below (2 ^ 64) (omega arith)
