-- Notes that are read line by line, and texts that are gone through character by character.
use Rattle.std.proofs.Common.{◌≡◌, ◌∙◌, ℕ, ◌+◌, ◌≤◌, ◌==◌, ◌&&◌, ◌⊎◌, inl, inr, Bool, true, false, not, if◌then◌else◌, nat_lt, List, [], ◌∷◌, ◌++◌, length, Option, None, Some, refl, sym, ap, append_assoc, append-nil, arith}
use Rattle.std.specs.Prelude.{Result, Ok, Err}
use Rattle.std.specs.List.{flat_map, join_with_byte, list_all}
use Rattle.std.specs.Char.{encode_utf8}
use Rattle.std.specs.Str.{chars, is_utf8, IsUtf8}
use Rattle.std.proofs.lemmas.List.Splits.{join_with_byte-slice_split}
use Rattle.std.proofs.lemmas.Bool.{cases_Bool}
use Rattle.std.proofs.lemmas.Bool.Decides.{nat_tests}
use Rattle.std.proofs.lemmas.Str.{chars-nil, chars_past_char, is_utf8-from_IsUtf8, IsUtf8-from_is_utf8}
use Rattle.shm_lines.specs.Words.{◌>>=◌, is_end, wide_of, words_of}
use Rattle.shm_lines.proofs.WordLemmas.{is_end-parts}
use Rattle.shm_draw.specs.Captions.{Beside, IsFaultIn, beside_from, beside_in, beside_of, besides_of, from_words, is_control, lines_of, max_caption_bytes, may_stand, of_note, of_notes, or_bad, text_in, then_rest}
use Rattle.shm_draw.specs.Svg.{escape, escaped}
use Rattle.shm_draw.specs.declared.caption.Caption.{Caption}
use Rattle.shm_draw.specs.declared.caption.CaptionFault.{CaptionFault}
use Rattle.shm_draw.specs.declared.caption.CaptionFault.TheVariants.{OutOfMemory, BadNote}

-- ---- characters

none_left : (bs : List ℕ) → length bs ≡ 0 → chars bs ≡ []
none_left [] e = chars-nil
none_left (b ∷ bs) e = let no : ⊥ = omega (arith, e) in absurd no

pub stands_past : (bs rest : List ℕ) (c : ℕ) → IsUtf8 bs → bs ≡ encode_utf8 c ++ rest → false ≡ is_control c
    → list_all may_stand (chars bs) ≡ list_all may_stand (chars rest)
stands_past bs rest c u e stands =
    ap (list_all may_stand) (chars_past_char bs rest c u e) ∙ ap (λ b. not b && list_all may_stand (chars rest)) (sym stands)

pub stands_not : (bs rest : List ℕ) (c : ℕ) → IsUtf8 bs → bs ≡ encode_utf8 c ++ rest → true ≡ is_control c → list_all may_stand (chars bs) ≡ false
stands_not bs rest c u e control =
    ap (list_all may_stand) (chars_past_char bs rest c u e) ∙ ap (λ b. not b && list_all may_stand (chars rest)) (sym control)

pub all_stand : (bs : List ℕ) → length bs ≡ 0 → list_all may_stand (chars bs) ≡ true
all_stand bs e = ap (list_all may_stand) (none_left bs e)

pub escaped_all : (now bs whole : List ℕ) → length bs ≡ 0 → now ++ escaped bs ≡ whole → now ≡ whole
escaped_all now bs whole e had = sym (append-nil now) ∙ ap (λ cs. now ++ flat_map escape cs) (sym (none_left bs e)) ∙ had

pub escaped_past : (now new bs rest whole : List ℕ) (c : ℕ) → IsUtf8 bs → bs ≡ encode_utf8 c ++ rest → new ≡ now ++ escape c → now ++ escaped bs ≡ whole → new ++ escaped rest ≡ whole
escaped_past now new bs rest whole c u e more had =
    ap (λ t. t ++ escaped rest) more
    ∙ append_assoc now (escape c) (escaped rest)
    ∙ ap (λ cs. now ++ flat_map escape cs) (sym (chars_past_char bs rest c u e))
    ∙ had

-- ---- one note

not_utf8 : (bs : List ℕ) → ¬ (IsUtf8 bs) → is_utf8 bs ≡ false
not_utf8 bs n = go (cases_Bool (is_utf8 bs))
  where
    go : (is_utf8 bs ≡ true) ⊎ (is_utf8 bs ≡ false) → is_utf8 bs ≡ false
    go (inl e) = absurd (n (IsUtf8-from_is_utf8 bs e))
    go (inr e) = e

neither : (b : Bool) (bs : List ℕ) → (if b && false then Some bs else None) ≡ None
neither true bs = refl
neither false bs = refl

pub no_text : (bs : List ℕ) → ¬ (IsUtf8 bs) → None ≡ text_in bs
no_text bs n =
    sym (ap (λ u. if not (nat_lt max_caption_bytes (length bs)) && (u && list_all may_stand (chars bs)) then Some bs else None) (not_utf8 bs n)
    ∙ neither (not (nat_lt max_caption_bytes (length bs))) bs)

pub one_text : (bs text : List ℕ) → text ≡ bs → IsUtf8 bs → length bs ≤ 200 → true ≡ list_all may_stand (chars text) → Some text ≡ text_in bs
one_text bs text same u short stands =
    let fits : nat_lt max_caption_bytes (length bs) ≡ false = grind (arith, nat_tests) in
    let plain : list_all may_stand (chars bs) ≡ true = sym (stands ∙ ap (λ t. list_all may_stand (chars t)) same) in
    ap Some same
    ∙ sym (ap (λ b. if not b && (is_utf8 bs && list_all may_stand (chars bs)) then Some bs else None) fits
    ∙ ap (λ b. if b && list_all may_stand (chars bs) then Some bs else None) (is_utf8-from_IsUtf8 bs u)
    ∙ ap (λ b. if b then Some bs else None) plain)

pub beside_told : (number bytes text : List ℕ) (line : ℕ) → Some line ≡ wide_of number → Some text ≡ text_in bytes → (line == 0) ≡ false
    → beside_from number bytes ≡ Some (record { line = line; text = text })
beside_told number bytes text line p q z =
    ap (λ n. n >>= (λ line. text_in bytes >>= (λ text. if line == 0 then None else Some (record { line = line; text = text })))) (sym p)
    ∙ ap (λ t. t >>= (λ text. if line == 0 then None else Some (record { line = line; text = text }))) (sym q)
    ∙ ap (λ b. if b then None else Some (record { line = line; text = text })) z

pub beside_untold : (number bytes : List ℕ) (line : ℕ) → Some line ≡ wide_of number → None ≡ text_in bytes → beside_from number bytes ≡ None
beside_untold number bytes line p q =
    ap (λ n. n >>= (λ line. text_in bytes >>= (λ text. if line == 0 then None else Some (record { line = line; text = text })))) (sym p)
    ∙ ap (λ t. t >>= (λ text. if line == 0 then None else Some (record { line = line; text = text }))) (sym q)

pub note_told : (n : ℕ) (note : List ℕ) (beside : Beside) → (length note == 0) ≡ false → Some beside ≡ beside_in note → of_note n note ≡ Ok (beside ∷ [])
note_told n note beside z e = ap (λ t. if t then Ok [] else or_bad n (beside_in note)) z ∙ ap (or_bad n) (sym e)

-- what stands after the first blank
words_parts : (number bytes : List ℕ) (words : List (List ℕ)) → words_of bytes ≡ words → from_words (number ∷ words) ≡ beside_from number bytes
words_parts number bytes [] e = let some : is_end (words_of bytes) ≡ false = is_end-parts (λ byte. byte == 32) bytes in let none : is_end (words_of bytes) ≡ true = ap is_end e in absurd (cc)
words_parts number bytes (word ∷ words) e = ap (beside_from number) (ap (join_with_byte 32) (sym e) ∙ join_with_byte-slice_split 32 bytes)

pub parts_of_note : (note number bytes : List ℕ) → words_of note ≡ number ∷ words_of bytes → beside_in note ≡ beside_from number bytes
parts_of_note note number bytes cut = ap from_words cut ∙ words_parts number bytes (words_of bytes) refl

pub besides-more : (captions : List Caption) (caption : Caption) → besides_of (captions ++ caption ∷ []) ≡ besides_of captions ++ beside_of caption ∷ []
besides-more [] caption = refl
besides-more (c ∷ captions) caption = ap (λ bs. beside_of c ∷ bs) (besides-more captions caption)

-- ---- all notes

then_rest-then : (before besides : List Beside) (rest : Result (List Beside) ℕ) → then_rest (Ok before) (then_rest (Ok besides) rest) ≡ then_rest (Ok (before ++ besides)) rest
then_rest-then before besides (Err bad) = refl
then_rest-then before besides (Ok others) = ap Ok (sym (append_assoc before besides others))

pub first_notes : (notes : Result (List Beside) ℕ) → notes ≡ then_rest (Ok []) notes
first_notes (Err bad) = refl
first_notes (Ok besides) = refl

-- this line, and what is read after it
step : (n : ℕ) (before besides : List Beside) (note : List ℕ) (notes others : List (List ℕ)) → notes ≡ note ∷ others → of_note n note ≡ Ok besides
    → then_rest (Ok before) (of_notes n notes) ≡ then_rest (Ok (before ++ besides)) (of_notes (n + 1) others)
step n before besides note notes others cut read =
    ap (λ ls. then_rest (Ok before) (of_notes n ls)) cut
    ∙ ap (λ r. then_rest (Ok before) (then_rest r (of_notes (n + 1) others))) read
    ∙ then_rest-then before besides (of_notes (n + 1) others)

pub note_passes : (n : ℕ) (all : Result (List Beside) ℕ) (before after besides : List Beside) (bytes note others : List ℕ)
    → lines_of bytes ≡ note ∷ lines_of others → of_note n note ≡ Ok besides → after ≡ before ++ besides
    → all ≡ then_rest (Ok before) (of_notes n (lines_of bytes)) → all ≡ then_rest (Ok after) (of_notes (n + 1) (lines_of others))
note_passes n all before after besides bytes note others cut read more had =
    had ∙ step n before besides note (lines_of bytes) (lines_of others) cut read ∙ ap (λ bs. then_rest (Ok bs) (of_notes (n + 1) (lines_of others))) (sym more)

pub last_note_passes : (n : ℕ) (all : Result (List Beside) ℕ) (before after besides : List Beside) (bytes note : List ℕ)
    → lines_of bytes ≡ note ∷ [] → of_note n note ≡ Ok besides → after ≡ before ++ besides
    → all ≡ then_rest (Ok before) (of_notes n (lines_of bytes)) → all ≡ Ok after
last_note_passes n all before after besides bytes note cut read more had =
    had ∙ step n before besides note (lines_of bytes) [] cut read ∙ ap Ok (append-nil (before ++ besides)) ∙ ap Ok (sym more)

pub note_fails : (n : ℕ) (all : Result (List Beside) ℕ) (before : List Beside) (bytes note : List ℕ) (others : List (List ℕ)) (fault : CaptionFault)
    → lines_of bytes ≡ note ∷ others → IsFaultIn (of_note n note) fault → all ≡ then_rest (Ok before) (of_notes n (lines_of bytes)) → IsFaultIn all fault
note_fails n all before bytes note others OutOfMemory cut fails had = tt
note_fails n all before bytes note others (BadNote number) cut fails had =
    had
    ∙ ap (λ ls. then_rest (Ok before) (of_notes n ls)) cut
    ∙ ap (λ r. then_rest (Ok before) (then_rest r (of_notes (n + 1) others))) fails
