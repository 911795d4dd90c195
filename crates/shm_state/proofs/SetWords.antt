-- Sets of sites as words: what is read is spelled so, and what is spelled so is read.
use Rattle.std.proofs.Common.{◌≡◌, ℕ, suc, ◌==◌, ◌&&◌, ◌||◌, Bool, true, false, List, [], ◌∷◌, ◌++◌, length, map, None, Some, cond, refl, sym, ap, ap₂, subst, ◌∙◌, arith}
use Rattle.std.specs.List.{list_all}
use Rattle.std.proofs.lemmas.Bool.Decides.{nat_tests}
use Rattle.std.proofs.lemmas.List.{length-map}
use Rattle.std.proofs.lemmas.List.Elements.{All-nil, All-cons}
use Rattle.shm_lines.proofs.NumberWords.{IsPrinter}
use Rattle.shm_lines.proofs.StepLemmas.{NoBlank, and-parts, cond-some}
use Rattle.shm_state.specs.SetWord.{IsSet, is_one, is_zero_or_one, member_digit, set_of, set_word}

-- ---- what is read

one-is : (byte : ℕ) → (byte == 49) ≡ true → 49 ≡ byte
one-is byte h = grind (arith, nat_tests)

zero-is : (byte : ℕ) → (byte == 49) ≡ false → ((byte == 48) || (byte == 49)) ≡ true → 48 ≡ byte
zero-is byte e h = grind (arith, nat_tests)

digit-is : (byte : ℕ) (b : Bool) → (byte == 49) ≡ b → is_zero_or_one byte ≡ true → member_digit b ≡ byte ∷ []
digit-is byte true e h = ap (λ n. n ∷ []) (one-is byte e)
digit-is byte false e h = ap (λ n. n ∷ []) (zero-is byte e h)

digits-are : (word : List ℕ) → list_all is_zero_or_one word ≡ true → set_word (map is_one word) ≡ word
digits-are [] h = refl
digits-are (byte ∷ word) h =
    let p = and-parts (is_zero_or_one byte) (list_all is_zero_or_one word) h in
    ap₂ ◌++◌ (digit-is byte (byte == 49) refl p.0) (digits-are word p.1)

sixteen : (word : List ℕ) → (length word == 16) ≡ true → length word ≡ 16
sixteen word h = grind (arith, nat_tests)

set-is : (word : List ℕ) (members : List Bool) → set_of word ≡ Some members → (word ≡ set_word members) × IsSet members
set-is word members h =
    let c = cond-some ((length word == 16) && list_all is_zero_or_one word) (map is_one word) members h in
    let p = and-parts (length word == 16) (list_all is_zero_or_one word) c.0 in
    subst (λ (m : List Bool). (word ≡ set_word m) × IsSet m) c.1 (sym (digits-are word p.1), length-map word is_one ∙ sixteen word p.0)

-- ---- what is spelled

digits-length : (members : List Bool) → length (set_word members) ≡ length members
digits-length [] = refl
digits-length (true ∷ members) = ap (λ n. suc n) (digits-length members)
digits-length (false ∷ members) = ap (λ n. suc n) (digits-length members)

digits-all : (members : List Bool) → list_all is_zero_or_one (set_word members) ≡ true
digits-all [] = refl
digits-all (true ∷ members) = digits-all members
digits-all (false ∷ members) = digits-all members

digits-back : (members : List Bool) → map is_one (set_word members) ≡ members
digits-back [] = refl
digits-back (true ∷ members) = ap (λ (l : List Bool). true ∷ l) (digits-back members)
digits-back (false ∷ members) = ap (λ (l : List Bool). false ∷ l) (digits-back members)

NoBlank-set : (members : List Bool) → NoBlank (set_word members)
NoBlank-set [] = All-nil (λ byte. (byte == 32) ≡ false)
NoBlank-set (true ∷ members) = All-cons (λ byte. (byte == 32) ≡ false) 49 (set_word members) refl (NoBlank-set members)
NoBlank-set (false ∷ members) = All-cons (λ byte. (byte == 32) ≡ false) 48 (set_word members) refl (NoBlank-set members)

is-sixteen : (n : ℕ) → n ≡ 16 → (n == 16) ≡ true
is-sixteen n h = grind (arith, nat_tests)

by-tests : (a b : Bool) (made members : List Bool) → a ≡ true → b ≡ true → made ≡ members → cond (a && b) (Some made) None ≡ Some members
by-tests true true made members p q e = ap Some e
by-tests true false made members p q e = absurd (cc)
by-tests false b made members p q e = absurd (cc)

set-read : (members : List Bool) → IsSet members → set_of (set_word members) ≡ Some members
set-read members h =
    by-tests (length (set_word members) == 16) (list_all is_zero_or_one (set_word members)) (map is_one (set_word members)) members
    (is-sixteen (length (set_word members)) (digits-length members ∙ h)) (digits-all members) (digits-back members)

pub set : IsPrinter set_of IsSet set_word
set = record { reads = set-is; prints = set-read; unparted = λ members h. NoBlank-set members }
