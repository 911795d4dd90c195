-- Answers: each line that is read is spelled so, and each that is spelled so is read.
use Rattle.std.proofs.Common.{◌≡◌, ℕ, ◌<◌, ◌==◌, true, List, [], ◌∷◌, ◌++◌, drop, None, Some, cond, refl, sym, ap, subst, ◌∙◌, arith}
use Rattle.std.specs.Prelude.{codes}
use Rattle.std.specs.Fmt.{decimal}
use Rattle.std.specs.Int.{is_in_range}
use Rattle.std.specs.List.{join_with_byte, list_all}
use Rattle.std.specs.Str.{IsUtf8}
use Rattle.std.proofs.lemmas.Bool.Decides.{nat_tests}
use Rattle.std.proofs.lemmas.List.Elements.{All-weaker}
use Rattle.std.proofs.lemmas.List.Splits.{join_with_byte-slice_split, slice_split_at}
use Rattle.std.proofs.lemmas.List.Sums.{AllPass-from_list_all}
use Rattle.std.proofs.lemmas.Str.{IsUtf8-from_ascii}
use Rattle.std.proofs.lemmas.Str.Ascii.{IsAscii-from_all}
use Rattle.shm_lines.proofs.NumberWords.{number}
use Rattle.shm_lines.proofs.ReadLemmas.{onto}
use Rattle.shm_lines.proofs.StepLemmas.{step, some-is, cond-some, NoBlank-test}
use Rattle.shm_lines.proofs.WordLemmas.{is_end-parts}
use Rattle.shm_lines.specs.Words.{words_of}
use Rattle.shm_wire.proofs.TagWords.{tag}
use Rattle.shm_wire.proofs.Reading.{took, took_verb, prints}
use Rattle.shm_wire.specs.Answers.{TellLine, IsTellLine, tell_line_after, tell_line, tell_line_of_words, is_text, read_tell_line, text_of, text_of_words}

text-range : (c : ℕ) → is_in_range 32 126 c ≡ true → c < 128
text-range c h = grind (arith, nat_tests)

pub text_is_utf8 : (text : List ℕ) → list_all (λ byte. is_in_range 32 126 byte) text ≡ true → IsUtf8 text
text_is_utf8 text h =
    IsUtf8-from_ascii text (IsAscii-from_all text (All-weaker (λ c. is_in_range 32 126 c ≡ true) (λ c. c < 128) text-range text (AllPass-from_list_all (λ c. is_in_range 32 126 c) text h)))

-- the words of a text make it
pub words_text : (text : List ℕ) → text_of_words (words_of text) ≡ text_of text
words_text text =
    ap (λ b. cond b None (text_of (join_with_byte 32 (words_of text)))) (is_end-parts (λ byte. byte == 32) text)
    ∙ ap text_of (join_with_byte-slice_split 32 text)

-- what text the words make
record TookText (words : List (List ℕ)) (text : List ℕ) : Type 0 where
  pub is : is_text text ≡ true
  pub first : List ℕ
  pub others : List (List ℕ)
  pub are : words ≡ first ∷ others
  pub make : join_with_byte 32 (first ∷ others) ≡ text

took_text : (words : List (List ℕ)) (text : List ℕ) → text_of_words words ≡ Some text → TookText words text
took_text [] text h = absurd (cc)
took_text (first ∷ others) text h =
    let c = cond-some (is_text (join_with_byte 32 (first ∷ others))) (join_with_byte 32 (first ∷ others)) text h in
    record { is = subst (λ t. is_text t ≡ true) c.1 c.0; first = first; others = others; are = refl; make = c.1 }

-- what stands after the verb
abbrev after_line : TellLine → List ℕ
after_line answer = decimal answer.site ++ 32 ∷ (answer.tag ++ 32 ∷ answer.text)

after-is : (words : List (List ℕ)) (answer : TellLine) → tell_line_after words ≡ Some answer
    → IsTellLine answer × (join_with_byte 32 (codes "tell" ∷ words) ≡ tell_line answer)
after-is words answer h =
    let s = took number words _ answer h in
    let t = took tag s.others _ answer s.gives in
    let x = step (text_of_words (drop 2 words)) _ answer t.gives in
    let two : words ≡ decimal s.value ∷ t.value ∷ t.others = onto s.are t.are in
    let r = took_text t.others x.value (ap text_of_words (sym (ap (drop 2) two)) ∙ x.gave) in
    let made : TellLine = record { site = s.value; tag = t.value; text = x.value } in
    let line : join_with_byte 32 (codes "tell" ∷ words) ≡ tell_line made =
    ap (λ l. join_with_byte 32 (codes "tell" ∷ l)) (two ∙ ap (λ l. decimal s.value ∷ t.value ∷ l) r.are)
    ∙ ap (λ text. codes "tell" ++ 32 ∷ (decimal s.value ++ 32 ∷ (t.value ++ 32 ∷ text))) r.make in
    subst (λ (a : TellLine). IsTellLine a × (join_with_byte 32 (codes "tell" ∷ words) ≡ tell_line a)) (some-is made answer x.gives) ((s.is, t.is, r.is), line)

pub answer-is_spelled : (bytes : List ℕ) (answer : TellLine) → read_tell_line bytes ≡ Some answer → IsTellLine answer × (bytes ≡ tell_line answer)
answer-is_spelled bytes answer h =
    let v = took_verb (codes "tell") tell_line_after (words_of bytes) answer h in
    let r = after-is v.others answer v.gives in
    (r.0, sym (join_with_byte-slice_split 32 bytes) ∙ ap (join_with_byte 32) v.are ∙ r.1)

pub answer-is_read : (answer : TellLine) → IsTellLine answer → read_tell_line (tell_line answer) ≡ Some answer
answer-is_read answer h =
    let site = decimal answer.site in
    let text = answer.text in
    let all : words_of (tell_line answer) ≡ codes "tell" ∷ site ∷ answer.tag ∷ words_of text =
    slice_split_at (λ byte. byte == 32) (codes "tell") 32 (after_line answer) (NoBlank-test (codes "tell") refl) refl
    ∙ ap (λ l. codes "tell" ∷ l) (slice_split_at (λ byte. byte == 32) site 32 (answer.tag ++ 32 ∷ text) (number.unparted answer.site h.0) refl)
    ∙ ap (λ l. codes "tell" ∷ site ∷ l) (slice_split_at (λ byte. byte == 32) answer.tag 32 text (tag.unparted answer.tag h.1) refl) in
    let whole : text_of_words (words_of text) ≡ Some text = words_text text ∙ ap (λ b. cond b (Some text) None) h.2 in
    ap tell_line_of_words all
    ∙ rw (prints number answer.site (answer.tag ∷ words_of text) h.0, prints tag answer.tag (words_of text) h.1, whole) refl
