-- The line that answers an ask: `tell SITE TAG`, and a text, which may have blanks.
use Rattle.std.specs.Prelude.{◌≡◌, ℕ, Bool, true, if◌then◌else◌, List, [], ◌∷◌, ◌++◌, codes, drop, Option, None, Some}
use Rattle.std.specs.Fmt.{decimal}
use Rattle.std.specs.Int.{is_in_range}
use Rattle.std.specs.List.{join_with_byte, list_all}
use Rattle.base64.specs.Engines.{standard}
use Rattle.base64.specs.GeneralPurpose.{encode_of}
use Rattle.shm_lines.specs.Words.{◌>>=◌, words_of, next_word, next_of, next_number, is_end}
use Rattle.shm_lines.specs.Spelling.{IsNumber}
use Rattle.shm_wire.specs.Tag.{IsTag, tag_of}
use Rattle.shm_wire.specs.TagOf.{tag_text}
use Rattle.shm_wire.specs.Words.{by_verb, nothing}
use Rattle.shm_wire.specs.declared.answer_line.TellLine.{TellLine as CodeTellLine}

-- printable ASCII, and blanks
abbrev pub is_text : List ℕ → Bool
is_text text = list_all (λ byte. is_in_range 32 126 byte) text

abbrev pub text_of : List ℕ → Option (List ℕ)
text_of text = if is_text text then Some text else None

-- all words that are left make the text
abbrev pub text_of_words : List (List ℕ) → Option (List ℕ)
text_of_words words = if is_end words then None else text_of (join_with_byte 32 words)

pub record TellLine : Type 0 where
  pub site : ℕ
  pub tag : List ℕ
  pub text : List ℕ

abbrev pub tell_line_of : CodeTellLine → TellLine
tell_line_of answer = record { site = answer.site; tag = tag_text answer.tag; text = answer.text.now }

-- the answers that have a line
abbrev pub IsTellLine : TellLine → Type 0
IsTellLine answer = IsNumber answer.site × IsTag answer.tag × (is_text answer.text ≡ true)

abbrev pub tell_line : TellLine → List ℕ
tell_line answer = join_with_byte 32 (codes "tell" ∷ decimal answer.site ∷ answer.tag ∷ answer.text ∷ [])

-- `site tag text`
abbrev pub tell_line_after : List (List ℕ) → Option TellLine
tell_line_after words = do
  (site, others) ← next_number words
  (tag, others) ← next_of tag_of others
  text ← text_of_words (drop 2 words)
  Some (record { site = site; tag = tag; text = text })

abbrev pub tell_line_of_words : List (List ℕ) → Option TellLine
tell_line_of_words words = do
  (verb, words) ← next_word words
  by_verb ((codes "tell", tell_line_after) ∷ []) nothing verb words

abbrev pub read_tell_line : List ℕ → Option TellLine
read_tell_line line = tell_line_of_words (words_of line)

-- ---- the text that answers a block

-- its bytes' base64
abbrev pub block_text : List ℕ → List ℕ
block_text bytes = codes "block " ++ encode_of standard bytes
