-- Notes: what is typed, what is kept, and how pictures read them.
use Rattle.std.proofs.Common.{rules, ◌≡◌, ◌∙◌, ℕ, ◌+◌, ◌^◌, ◌<◌, ◌≤◌, ◌==◌, ◌&&◌, ◌⊎◌, inl, inr, Bool, true, false, not, if◌then◌else◌, List, [], ◌∷◌, ◌++◌, length, filter, get_or, nat_lt, All, Option, None, Some, refl, sym, ap, ap₂, subst, append_assoc, length-append, arith}
use Rattle.std.specs.Prelude.{Result, Ok, Err, IfOk}
use Rattle.std.specs.Char.{is_ascii_digit}
use Rattle.std.specs.Fmt.{decimal}
use Rattle.std.specs.Int.{IsInRange}
use Rattle.std.specs.List.{join_with_byte, list_all}
use Rattle.std.specs.Option.{option_map, option_map_or}
use Rattle.std.specs.Str.{chars, is_utf8, IsUtf8}
use Rattle.std.specs.Str.Parse.{digits_value}
use Rattle.std.proofs.lemmas.Bool.{cases_Bool}
use Rattle.std.proofs.lemmas.Bool.Decides.{nat_tests}
use Rattle.std.proofs.lemmas.Fmt.{digits_decimal}
use Rattle.std.proofs.lemmas.List.Elements.{All-append, All-cons, All-filter, All-from_get_or, All-head, All-nil, All-tail}
use Rattle.std.proofs.lemmas.List.Splits.{join_with_byte-slice_split, slice_split_at}
use Rattle.std.proofs.lemmas.Str.{is_utf8-from_IsUtf8, IsUtf8-from_is_utf8}
use Rattle.std.proofs.lemmas.Str.Parse.{IsNumeralModel, numerals_by_value}
use Rattle.shm_lines.proofs.NumberLemmas.{digit_at}
use Rattle.shm_lines.proofs.NumberWords.{wide}
use Rattle.shm_lines.proofs.WordLemmas.{is_end-parts}
use Rattle.shm_lines.specs.Words.{is_end, words_of}
use Rattle.shm_draw.specs.Captions.{Beside, captions_in, is_caption, lines_of, max_caption_bytes, may_stand, of_note, of_notes, text_in, then_rest}
use Rattle.shm_draw.proofs.Captioned.{beside_told, note_told, parts_of_note}
use Rattle.shm_prompt.specs.Notes.{IsNote, is_note, note, note_bytes, notes_text, text_behind, text_typed, with_note}

-- ---- what is typed

words_behind : (verb bytes : List ℕ) (words : List (List ℕ)) → words_of bytes ≡ words → text_behind (verb ∷ words) ≡ Some bytes
words_behind verb bytes [] e = let some : is_end (words_of bytes) ≡ false = is_end-parts (λ byte. byte == 32) bytes in let none : is_end (words_of bytes) ≡ true = ap is_end e in absurd (cc)
words_behind verb bytes (word ∷ words) e = ap Some (ap (join_with_byte 32) (sym e) ∙ join_with_byte-slice_split 32 bytes)

-- what stands behind the first blank, where there is one
pub behind : {T : Type 0} (now : T → List ℕ) (typed verb : List ℕ) (o : Option T) → words_of typed ≡ verb ∷ option_map_or (λ t. words_of (now t)) o []
    → option_map now o ≡ text_typed typed
behind now typed verb None e = sym (ap text_behind e)
behind now typed verb (Some t) e = sym (ap text_behind e ∙ words_behind verb (now t) (words_of (now t)) refl)

not_utf8 : (bs : List ℕ) → ¬ (IsUtf8 bs) → is_utf8 bs ≡ false
not_utf8 bs n = go (cases_Bool (is_utf8 bs))
  where
    go : (is_utf8 bs ≡ true) ⊎ (is_utf8 bs ≡ false) → is_utf8 bs ≡ false
    go (inl e) = absurd (n (IsUtf8-from_is_utf8 bs e))
    go (inr e) = e

neither : (b c : Bool) → ((b && false) && c) ≡ false
neither true c = refl
neither false c = refl

whole : (b c : Bool) → b ≡ true → ((true && (true && c)) && b) ≡ c
whole true true h = refl
whole true false h = refl
whole false c h = absurd (cc)

pub no_note : (bs : List ℕ) → ¬ (IsUtf8 bs) → false ≡ is_note bs
no_note bs n =
    sym (ap (λ u. (not (nat_lt max_caption_bytes (length bs)) && (u && list_all may_stand (chars bs))) && list_all (λ byte. not (byte == 10)) bs) (not_utf8 bs n)
    ∙ neither (not (nat_lt max_caption_bytes (length bs))) (list_all (λ byte. not (byte == 10)) bs))

pub one_note : (bs text : List ℕ) (stands : Bool) → text ≡ bs → IsUtf8 bs → length bs ≤ 200 → true ≡ list_all (λ byte. not (byte == 10)) bs
    → stands ≡ list_all may_stand (chars text) → stands ≡ is_note bs
one_note bs text stands same u short line plain =
    let fits : nat_lt max_caption_bytes (length bs) ≡ false = grind (arith, nat_tests) in
    plain ∙ ap (λ t. list_all may_stand (chars t)) same
    ∙ sym (ap (λ b. (not b && (is_utf8 bs && list_all may_stand (chars bs))) && list_all (λ byte. not (byte == 10)) bs) fits
    ∙ ap (λ b. (true && (b && list_all may_stand (chars bs))) && list_all (λ byte. not (byte == 10)) bs) (is_utf8-from_IsUtf8 bs u)
    ∙ whole (list_all (λ byte. not (byte == 10)) bs) (list_all may_stand (chars bs)) (sym line))

-- ---- what is kept

pub kept-are : (p : Beside → Bool) (xs ys : List Beside) → ys ≡ filter p xs → All IsNote xs → All IsNote ys
kept-are p xs ys e h = subst (All IsNote) (sym e) (All-filter p IsNote xs h)

pub noted-are : (p : Beside → Bool) (xs ys zs : List Beside) (n : Beside) → ys ≡ filter p xs → zs ≡ ys ++ n ∷ [] → All IsNote xs → IsNote n → All IsNote zs
noted-are p xs ys zs n e f h is =
    subst (All IsNote) (sym f) (All-append IsNote ys (n ∷ []) (kept-are p xs ys e h) (All-cons IsNote n [] is (All-nil IsNote)))

pub noted-is : (xs ys zs : List Beside) (line : ℕ) (text kept : List ℕ) → ys ≡ filter (λ n. nat_lt n.line line) xs → zs ≡ ys ++ note line kept ∷ [] → kept ≡ text
    → zs ≡ with_note xs line text
noted-is xs ys zs line text kept e f same = f ∙ ap₂ (λ l t. l ++ note line t ∷ []) e same

-- ---- how they are read

own : IsNumeralModel (λ ds. list_all is_ascii_digit ds ≡ true) (digits_value 10)
own = numerals_by_value (λ ds. list_all is_ascii_digit ds ≡ true) (search rules)

abbrev NoFeed : List ℕ → Type 0
NoFeed bytes = All (λ byte. (byte == 10) ≡ false) bytes

decimal-feed : (n : ℕ) → n < 2 ^ 64 → NoFeed (decimal n)
decimal-feed n h = All-from_get_or (λ byte. (byte == 10) ≡ false) (decimal n) 0 (λ i lt. apart (get_or (decimal n) i 0) (digit_at (decimal n) i (digits_decimal own n h) lt))
  where
    apart : (c : ℕ) → IsInRange 48 57 c → (c == 10) ≡ false
    apart c r = grind (arith, nat_tests)

both-left : (a b : Bool) → (a && b) ≡ true → a ≡ true
both-left true b h = refl
both-left false b h = absurd (cc)

both-right : (a b : Bool) → (a && b) ≡ true → b ≡ true
both-right true b h = h
both-right false b h = absurd (cc)

not-false : (b : Bool) → not b ≡ true → b ≡ false
not-false true h = absurd (cc)
not-false false h = refl

text-feed : (xs : List ℕ) → list_all (λ byte. not (byte == 10)) xs ≡ true → NoFeed xs
text-feed [] h = All-nil (λ byte. (byte == 10) ≡ false)
text-feed (x ∷ xs) h =
    All-cons (λ byte. (byte == 10) ≡ false) x xs
    (not-false (x == 10) (both-left (not (x == 10)) (list_all (λ byte. not (byte == 10)) xs) h))
    (text-feed xs (both-right (not (x == 10)) (list_all (λ byte. not (byte == 10)) xs) h))

body : Beside → List ℕ
body n = decimal n.line ++ 32 ∷ n.text

body-feed : (n : Beside) → IsNote n → NoFeed (body n)
unfolding body
body-feed n is =
    All-append (λ byte. (byte == 10) ≡ false) (decimal n.line) (32 ∷ n.text) (decimal-feed n.line is.within)
    (All-cons (λ byte. (byte == 10) ≡ false) 32 n.text refl
    (text-feed n.text (both-right (is_caption n.text) (list_all (λ byte. not (byte == 10)) n.text) is.is)))

text_in-note : (text : List ℕ) → is_caption text ≡ true → Some text ≡ text_in text
text_in-note text is = sym (ap (λ b. if b then Some text else None) is)

body-read : (k : ℕ) (n : Beside) → IsNote n → of_note k (body n) ≡ Ok (n ∷ [])
unfolding body
body-read k n is =
    let cut : words_of (body n) ≡ decimal n.line ∷ words_of n.text = slice_split_at (λ byte. byte == 32) (decimal n.line) 32 n.text (wide.unparted n.line is.within) refl in
    let some : 0 < length (body n) = let longer = length-append (decimal n.line) (32 ∷ n.text) in omega (arith, longer) in
    let there : (length (body n) == 0) ≡ false = grind (arith, nat_tests) in
    let first : 0 < n.line = is.from_1 in
    let numbered : (n.line == 0) ≡ false = grind (arith, nat_tests) in
    note_told k (body n) n there (
    sym (parts_of_note (body n) (decimal n.line) n.text cut
    ∙ beside_told (decimal n.line) n.text n.text n.line (sym (wide.prints n.line is.within))
    (text_in-note n.text (both-left (is_caption n.text) (list_all (λ byte. not (byte == 10)) n.text) is.is)) numbered)
    )

cut-first : (n : Beside) (rest : List ℕ) → IsNote n → lines_of (note_bytes n ++ rest) ≡ body n ∷ lines_of rest
unfolding body
cut-first n rest is =
    ap lines_of (
    append_assoc (decimal n.line) (32 ∷ (n.text ++ 10 ∷ [])) rest
    ∙ ap (λ t. decimal n.line ++ 32 ∷ t) (append_assoc n.text (10 ∷ []) rest)
    ∙ sym (append_assoc (decimal n.line) (32 ∷ n.text) (10 ∷ rest))
    )
    ∙ slice_split_at (λ byte. byte == 10) (body n) 10 rest (body-feed n is) refl

drawn-from : (k : ℕ) (notes : List Beside) → All IsNote notes → of_notes k (lines_of (notes_text notes)) ≡ Ok notes
drawn-from k [] h = refl
drawn-from k (n ∷ notes) h =
    let is : IsNote n = All-head IsNote n notes h in
    ap (of_notes k) (cut-first n (notes_text notes) is)
    ∙ ap₂ then_rest (body-read k n is) (drawn-from (k + 1) notes (All-tail IsNote n notes h))

-- Pictures have the notes as captions.
pub drawn : (notes : List Beside) (text : List ℕ) → text ≡ notes_text notes → All IsNote notes → captions_in text ≡ Ok notes
drawn notes text e h = ap captions_in e ∙ drawn-from 1 notes h

pub drawn-text : {T E : Type 0} (kept notes lent : List Beside) (result : Result T E) (bytes : T → List ℕ) → kept ≡ notes → lent ≡ kept → All IsNote kept
    → IfOk result (λ text. bytes text ≡ notes_text lent) → IfOk result (λ text. captions_in (bytes text) ≡ Ok notes)
drawn-text kept notes lent (Ok text) bytes view same h told = drawn notes (bytes text) (told ∙ ap notes_text (same ∙ view)) (subst (All IsNote) view h)
drawn-text kept notes lent (Err e) bytes view same h told = told
