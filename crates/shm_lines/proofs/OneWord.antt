-- What a single word stands for, and how that is spelled: each reader of words beside its printer.
use Rattle.std.proofs.Common.{◌≡◌, ℕ, zero, suc, ◌+◌, ◌*◌, ◌/◌, ◌%◌, ◌<◌, ◌==◌, ◌&&◌, Bool, true, false, List, [], ◌∷◌, ◌++◌, length, None, Some, cond, nat_lt, refl, sym, ap, ap₂, subst, ◌∙◌, arith}
use Rattle.std.specs.Prelude.{codes, ⊤}
use Rattle.std.specs.List.{list_all}
use Rattle.std.specs.Char.{is_digit, digit_value}
use Rattle.std.specs.Fmt.{decimal}
use Rattle.std.specs.Str.{bytes_eq}
use Rattle.std.specs.Str.Parse.{digits_value}
use Rattle.std.proofs.lemmas.Bool.Decides.{nat_tests}
use Rattle.std.proofs.lemmas.Fmt.{decimal_digit}
use Rattle.std.proofs.lemmas.List.Elements.{All-nil, All-cons}
use Rattle.std.proofs.lemmas.Slice.Eq.{bytes_eq-Decides}
use Rattle.shm_model.specs.declared.mode_and_get_flags.GetFlags.{GetFlags}
use Rattle.shm_lines.proofs.NumberWords.{IsPrinter, number}
use Rattle.shm_lines.proofs.StepLemmas.{step, step-is, some-is, cond-some, and-parts, lt-true, lt-test, NoBlank, NoBlank-test}
use Rattle.shm_lines.specs.Words.{IsMode, IsFlags, number_of, byte_of, mode_of, flags_of, access_of, flags_word, access_word}
use Rattle.shm_model.specs.Mode.{mode_word}

-- ---- bytes

abbrev IsByte : ℕ → Type 0
IsByte n = n < 256

byte_of-is : (word : List ℕ) (n : ℕ) → byte_of word ≡ Some n → (word ≡ decimal n) × IsByte n
byte_of-is word n h =
    let s = step (number_of word) (λ m. cond (nat_lt m 256) (Some m) None) n h in
    let c = cond-some (nat_lt s.value 256) s.value n s.gives in
    let w = number.reads word s.value s.gave in
    (w.0 ∙ ap decimal c.1, subst IsByte c.1 (lt-true s.value 256 c.0))

byte_of-decimal : (n : ℕ) → IsByte n → byte_of (decimal n) ≡ Some n
byte_of-decimal n h =
    step-is (number_of (decimal n)) (λ m. cond (nat_lt m 256) (Some m) None) n (number.prints n (omega arith))
    ∙ ap (λ b. cond b (Some n) None) (lt-test n 256 h)

pub byte : IsPrinter byte_of IsByte decimal
byte = record { reads = byte_of-is; prints = byte_of-decimal; unparted = λ n h. number.unparted n (omega arith) }

-- ---- modes

octal : (c : ℕ) → is_digit c 8 ≡ true → (c ≡ 48 + digit_value c) × (digit_value c < 8)
octal c h = grind (arith, nat_tests)

octal_digit : (d : ℕ) → d < 8 → (is_digit (48 + d) 8 ≡ true) × (digit_value (48 + d) ≡ d)
octal_digit d h = grind (arith, nat_tests)

-- a list of three
three : (word : List ℕ) → (length word == 3) ≡ true → (a b c : ℕ) × (word ≡ a ∷ b ∷ c ∷ [])
three [] h = absurd (grind (arith, nat_tests))
three (a ∷ []) h = absurd (grind (arith, nat_tests))
three (a ∷ b ∷ []) h = absurd (grind (arith, nat_tests))
three (a ∷ b ∷ c ∷ []) h = (a, b, c, refl)
three (a ∷ b ∷ c ∷ d ∷ rest) h = absurd (grind (arith, nat_tests))

abbrev from_digits : ℕ → ℕ → ℕ → ℕ
from_digits a b c = ((0 * 8 + a) * 8 + b) * 8 + c

mode_of_three : (a b c : ℕ) (m : ℕ) → is_digit a 8 ≡ true → is_digit b 8 ≡ true → is_digit c 8 ≡ true → m ≡ digits_value 8 (a ∷ b ∷ c ∷ [])
    → (a ∷ b ∷ c ∷ [] ≡ mode_word m) × IsMode m
mode_of_three a b c m x y z e =
    let p = octal a x in
    let q = octal b y in
    let r = octal c z in
    let high : m / 64 ≡ digit_value a = omega arith in
    let middle : m / 8 % 8 ≡ digit_value b = omega arith in
    let low : m % 8 ≡ digit_value c = omega arith in
    let first : decimal (m / 64) ≡ a ∷ [] = ap decimal high ∙ decimal_digit (digit_value a) (omega arith) ∙ ap (λ n. n ∷ []) (sym p.0) in
    let second : decimal (m / 8 % 8) ≡ b ∷ [] = ap decimal middle ∙ decimal_digit (digit_value b) (omega arith) ∙ ap (λ n. n ∷ []) (sym q.0) in
    let third : decimal (m % 8) ≡ c ∷ [] = ap decimal low ∙ decimal_digit (digit_value c) (omega arith) ∙ ap (λ n. n ∷ []) (sym r.0) in
    (sym (ap₂ ◌++◌ first (ap₂ ◌++◌ second third)), omega arith)

mode_of-is : (word : List ℕ) (m : ℕ) → mode_of word ≡ Some m → (word ≡ mode_word m) × IsMode m
mode_of-is word m h =
    let t = cond-some ((length word == 3) && list_all (λ b. is_digit b 8) word) (digits_value 8 word) m h in
    let p = and-parts (length word == 3) (list_all (λ b. is_digit b 8) word) t.0 in
    let w = three word p.0 in
    let a = w.0 in
    let b = w.1 in
    let c = w.2 in
    let e = w.3 in
    let all : list_all (λ b. is_digit b 8) (a ∷ b ∷ c ∷ []) ≡ true = ap (list_all (λ b. is_digit b 8)) (sym e) ∙ p.1 in
    let x = and-parts (is_digit a 8) (is_digit b 8 && (is_digit c 8 && true)) all in
    let y = and-parts (is_digit b 8) (is_digit c 8 && true) x.1 in
    let z = and-parts (is_digit c 8) true y.1 in
    let value : m ≡ digits_value 8 (a ∷ b ∷ c ∷ []) = sym t.1 ∙ ap (digits_value 8) e in
    let r = mode_of_three a b c m x.0 y.0 z.0 value in
    (e ∙ r.0, r.1)

by_parts : (p q r : Bool) (u v w a b c : ℕ) → p ≡ true → q ≡ true → r ≡ true → u ≡ a → v ≡ b → w ≡ c
    → cond (p && (q && (r && true))) (Some (from_digits u v w)) None ≡ Some (from_digits a b c)
by_parts true true true u v w a b c x y z e f g = rw (e, f, g) refl
by_parts true true false u v w a b c x y z e f g = absurd (cc)
by_parts true false r u v w a b c x y z e f g = absurd (cc)
by_parts false q r u v w a b c x y z e f g = absurd (cc)

mode_of_digits : (a b c : ℕ) → a < 8 → b < 8 → c < 8 → mode_of ((48 + a) ∷ (48 + b) ∷ (48 + c) ∷ []) ≡ Some (from_digits a b c)
mode_of_digits a b c x y z =
    let p = octal_digit a x in
    let q = octal_digit b y in
    let r = octal_digit c z in
    by_parts (is_digit (48 + a) 8) (is_digit (48 + b) 8) (is_digit (48 + c) 8) (digit_value (48 + a)) (digit_value (48 + b)) (digit_value (48 + c)) a b c p.0 q.0 r.0 p.1 q.1 r.1

mode_digits : (m : ℕ) → IsMode m → mode_word m ≡ (48 + m / 64) ∷ (48 + m / 8 % 8) ∷ (48 + m % 8) ∷ []
mode_digits m h =
    ap₂ ◌++◌ (decimal_digit (m / 64) (omega arith)) (ap₂ ◌++◌ (decimal_digit (m / 8 % 8) (omega arith)) (decimal_digit (m % 8) (omega arith)))

mode_of-word : (m : ℕ) → IsMode m → mode_of (mode_word m) ≡ Some m
mode_of-word m h =
    let whole : from_digits (m / 64) (m / 8 % 8) (m % 8) ≡ m = omega arith in
    ap mode_of (mode_digits m h)
    ∙ mode_of_digits (m / 64) (m / 8 % 8) (m % 8) (omega arith) (omega arith) (omega arith)
    ∙ ap (λ n. Some n) whole

NoBlank-mode : (m : ℕ) → IsMode m → NoBlank (mode_word m)
NoBlank-mode m h = subst NoBlank (sym (mode_digits m h)) (
    All-cons test (48 + m / 64) ((48 + m / 8 % 8) ∷ (48 + m % 8) ∷ []) (apart (m / 64)) (
    All-cons test (48 + m / 8 % 8) ((48 + m % 8) ∷ []) (apart (m / 8 % 8)) (
    All-cons test (48 + m % 8) [] (apart (m % 8)) (All-nil test)
    )
    )
    )
  where
    test : ℕ → Type 0
    test byte = (byte == 32) ≡ false

    apart : (d : ℕ) → (48 + d == 32) ≡ false
    apart d = grind (arith, nat_tests)

pub mode : IsPrinter mode_of IsMode mode_word
mode = record { reads = mode_of-is; prints = mode_of-word; unparted = NoBlank-mode }

-- ---- flags

flags_by : (word : List ℕ) (f : GetFlags) (a b c d : Bool)
    → bytes_eq word (codes "-") ≡ a → bytes_eq word (codes "c") ≡ b → bytes_eq word (codes "x") ≡ c → bytes_eq word (codes "cx") ≡ d
    → cond a (Some (record { 0 = 0 })) (cond b (Some (record { 0 = 512 })) (cond c (Some (record { 0 = 1024 })) (cond d (Some (record { 0 = 1536 })) None))) ≡ Some f
    → (word ≡ flags_word f) × IsFlags f
flags_by word f true b c d p q r s h =
    subst (λ k. (word ≡ flags_word k) × IsFlags k) (some-is (record { 0 = 0 }) f h) ((bytes_eq-Decides word (codes "-")).0 p, (refl, omega arith))
flags_by word f false true c d p q r s h =
    subst (λ k. (word ≡ flags_word k) × IsFlags k) (some-is (record { 0 = 512 }) f h) ((bytes_eq-Decides word (codes "c")).0 q, (refl, omega arith))
flags_by word f false false true d p q r s h =
    subst (λ k. (word ≡ flags_word k) × IsFlags k) (some-is (record { 0 = 1024 }) f h) ((bytes_eq-Decides word (codes "x")).0 r, (refl, omega arith))
flags_by word f false false false true p q r s h =
    subst (λ k. (word ≡ flags_word k) × IsFlags k) (some-is (record { 0 = 1536 }) f h) ((bytes_eq-Decides word (codes "cx")).0 s, (refl, omega arith))
flags_by word f false false false false p q r s h = absurd (cc)

abbrev Told : ℕ → Type 0
Told n = (flags_of (flags_word (record { 0 = n })) ≡ Some (record { 0 = n })) × NoBlank (flags_word (record { 0 = n }))

told : (k : ℕ) → k < 4 → Told (k * 512)
told zero h = (refl, NoBlank-test (codes "-") refl)
told (suc zero) h = (refl, NoBlank-test (codes "c") refl)
told (suc (suc zero)) h = (refl, NoBlank-test (codes "x") refl)
told (suc (suc (suc zero))) h = (refl, NoBlank-test (codes "cx") refl)
told (suc (suc (suc (suc k)))) h = absurd (omega arith)

flags_told : (f : GetFlags) → IsFlags f → Told f.0
flags_told f h =
    let k : f.0 / 512 * 512 ≡ f.0 = omega arith in
    subst Told k (told (f.0 / 512) (omega arith))

pub flags : IsPrinter flags_of IsFlags flags_word
flags = record {
  reads = λ word f h. flags_by word f (bytes_eq word (codes "-")) (bytes_eq word (codes "c")) (bytes_eq word (codes "x")) (bytes_eq word (codes "cx")) refl refl refl refl h;
  prints = λ f h. (flags_told f h).0;
  unparted = λ f h. (flags_told f h).1;
}

-- ---- accesses

access_by : (word : List ℕ) (ro a b : Bool) → bytes_eq word (codes "ro") ≡ a → bytes_eq word (codes "rw") ≡ b
    → cond a (Some true) (cond b (Some false) None) ≡ Some ro → word ≡ access_word ro
access_by word ro true b p q h = (bytes_eq-Decides word (codes "ro")).0 p ∙ ap access_word (some-is true ro h)
access_by word ro false true p q h = (bytes_eq-Decides word (codes "rw")).0 q ∙ ap access_word (some-is false ro h)
access_by word ro false false p q h = absurd (cc)

access_of-word : (ro : Bool) → access_of (access_word ro) ≡ Some ro
access_of-word true = refl
access_of-word false = refl

NoBlank-access : (ro : Bool) → NoBlank (access_word ro)
NoBlank-access true = NoBlank-test (codes "ro") refl
NoBlank-access false = NoBlank-test (codes "rw") refl

pub access : IsPrinter access_of (λ ro. ⊤) access_word
access = record {
  reads = λ word ro h. (access_by word ro (bytes_eq word (codes "ro")) (bytes_eq word (codes "rw")) refl refl h, tt);
  prints = λ ro h. access_of-word ro;
  unparted = λ ro h. NoBlank-access ro;
}
