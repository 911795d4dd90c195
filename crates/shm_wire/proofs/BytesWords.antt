-- Bytes as a word: what is read is their base64, and their base64 is read as them.
use Rattle.std.proofs.Common.{◌≡◌, ℕ, lit<, ◌+◌, ◌*◌, ◌/◌, ◌%◌, ◌<◌, ◌≤◌, ◌==◌, ◌&&◌, Bool, true, false, List, [], ◌∷◌, length, replicate, map, slice_index, None, Some, cond, nat_lt, ◌⊎◌, inl, inr, refl, sym, ap, subst, ◌∙◌, arith}
use Rattle.std.specs.List.{list_all}
use Rattle.std.specs.Str.{bytes_eq}
use Rattle.std.specs.declared.result.Result.{Result}
use Rattle.std.specs.declared.result.Result.TheVariants.{Ok, Err}
use Rattle.std.proofs.lemmas.Bool.{cases_lt}
use Rattle.std.proofs.lemmas.Bool.Decides.{nat_tests}
use Rattle.std.proofs.lemmas.List.{get_or_past}
use Rattle.std.proofs.lemmas.List.Elements.{All-nil, All-cons, All-append, All-replicate, All-get_or, All-from_get_or}
use Rattle.std.proofs.lemmas.List.Sums.{AllPass-from_list_all, list_all-from_AllPass}
use Rattle.std.proofs.lemmas.Slice.Eq.{bytes_eq-Decides}
use Rattle.base64.specs.declared.decode.DecodeError.{DecodeError}
use Rattle.base64.specs.Engines.{standard}
use Rattle.base64.specs.GeneralPurpose.{IsBytes, decode_of}
use Rattle.base64.specs.Rfc4648.{encode_group, encode_symbols}
use Rattle.base64.proofs.EngineFacts.{decode_of-encode_of}
use Rattle.shm_lines.proofs.NumberWords.{IsPrinter}
use Rattle.shm_lines.proofs.StepLemmas.{NoBlank, NoBlank-test, cond-some, lt-true, lt-test}
use Rattle.shm_wire.specs.BytesWord.{bytes_word, spells, decoded, bytes_of}

-- ---- bytes, as a test

bytes-from_test : (bytes : List ℕ) → list_all (λ byte. nat_lt byte 256) bytes ≡ true → IsBytes bytes
bytes-from_test bytes h i = go (cases_lt i (length bytes))
  where
    go : (i < length bytes) ⊎ (length bytes ≤ i) → slice_index bytes i < 256
    go (inl lt) = lt-true (slice_index bytes i) 256 (All-get_or (λ byte. nat_lt byte 256 ≡ true) bytes i 0 lt (AllPass-from_list_all (λ byte. nat_lt byte 256) bytes h))
    go (inr ge) = subst (λ n. n < 256) (sym (get_or_past bytes i 0 ge)) (lit< tt)

bytes-test : (bytes : List ℕ) → IsBytes bytes → list_all (λ byte. nat_lt byte 256) bytes ≡ true
bytes-test bytes h =
    list_all-from_AllPass (λ byte. nat_lt byte 256) bytes
    (All-from_get_or (λ byte. nat_lt byte 256 ≡ true) bytes 0 (λ i lt. lt-test (slice_index bytes i) 256 (h i)))

-- ---- what is read

parts : (a b : Bool) → (a && b) ≡ true → (a ≡ true) × (b ≡ true)
parts true true h = (refl, refl)
parts true false h = absurd (cc)
parts false b h = absurd (cc)

decoded-is : (word : List ℕ) (r : Result (List ℕ) DecodeError) (bytes : List ℕ) → decoded word r ≡ Some bytes → (word ≡ bytes_word bytes) × IsBytes bytes
decoded-is word (Err error) bytes h = absurd (cc)
decoded-is word (Ok made) bytes h =
    let c = cond-some (spells word made) made bytes h in
    let p = parts (bytes_eq word (bytes_word made)) (list_all (λ byte. nat_lt byte 256) made) c.0 in
    subst (λ b. (word ≡ bytes_word b) × IsBytes b) c.1 ((bytes_eq-Decides word (bytes_word made)).0 p.0, bytes-from_test made p.1)

-- ---- the base64 of bytes has no blank

abbrev IsInk : ℕ → Type 0
IsInk byte = (byte == 32) ≡ false

abbrev AreInk : List ℕ → Type 0
AreInk symbols = (i : ℕ) → IsInk (slice_index symbols i)

ink : (symbols : List ℕ) → NoBlank symbols → AreInk symbols
ink symbols h i = go (cases_lt i (length symbols))
  where
    go : (i < length symbols) ⊎ (length symbols ≤ i) → IsInk (slice_index symbols i)
    go (inl lt) = All-get_or IsInk symbols i 0 lt h
    go (inr ge) = ap (λ n. n == 32) (get_or_past symbols i 0 ge)

-- the symbols at these places
inked : (symbols places : List ℕ) → AreInk symbols → NoBlank (map (λ i. slice_index symbols i) places)
inked symbols [] h = All-nil IsInk
inked symbols (i ∷ is) h = All-cons IsInk (slice_index symbols i) (map (λ i. slice_index symbols i) is) (h i) (inked symbols is h)

NoBlank-symbols : (t m : List ℕ) → AreInk t → NoBlank (encode_symbols t m)
unfolding encode_symbols
NoBlank-symbols t [] h = All-nil IsInk
NoBlank-symbols t (a ∷ []) h = inked t ((a / 4) ∷ (a % 4 * 16) ∷ []) h
NoBlank-symbols t (a ∷ b ∷ []) h = inked t ((a / 4) ∷ (a % 4 * 16 + b / 16) ∷ (b % 16 * 4) ∷ []) h
NoBlank-symbols t (a ∷ b ∷ c ∷ rest) h =
    All-append IsInk (encode_group t a b c) (encode_symbols t rest)
    (inked t ((a / 4) ∷ (a % 4 * 16 + b / 16) ∷ (b % 16 * 4 + c / 64) ∷ (c % 64) ∷ []) h)
    (NoBlank-symbols t rest h)

NoBlank-word : (bytes : List ℕ) → NoBlank (bytes_word bytes)
NoBlank-word bytes =
    All-append IsInk (encode_symbols standard.encode_table bytes) (replicate _ 61)
    (NoBlank-symbols standard.encode_table bytes (ink standard.encode_table (NoBlank-test standard.encode_table refl)))
    (All-replicate IsInk _ 61 refl)

-- ---- both

spelled : (bytes : List ℕ) (a b : Bool) → a ≡ true → b ≡ true → cond (a && b) (Some bytes) None ≡ Some bytes
spelled bytes true true p q = refl
spelled bytes true false p q = absurd (cc)
spelled bytes false b p q = absurd (cc)

-- what decodes to bytes, and is how those are spelled
pub word-decoded : (word bytes : List ℕ) → decode_of standard word ≡ Ok bytes → word ≡ bytes_word bytes → IsBytes bytes → bytes_of word ≡ Some bytes
word-decoded word bytes ok exact h =
    ap (decoded word) ok
    ∙ spelled bytes (bytes_eq word (bytes_word bytes)) (list_all (λ byte. nat_lt byte 256) bytes)
    ((bytes_eq-Decides word (bytes_word bytes)).1 exact) (bytes-test bytes h)

pub base64 : IsPrinter bytes_of IsBytes bytes_word
base64 = record {
  reads = λ word bytes h. decoded-is word (decode_of standard word) bytes h;
  prints = λ bytes h. word-decoded (bytes_word bytes) bytes (decode_of-encode_of standard bytes refl h) refl h;
  unparted = λ bytes h. NoBlank-word bytes;
}
