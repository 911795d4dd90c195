-- Captions: texts beside the rows of a picture, as a text of notes has them, line by line. The note `NUMBER TEXT` has the text for the row
-- before which the picture shows that number, the opening's being 1. Empty lines are let go, and the last line may lack its line feed.
use Rattle.std.specs.Prelude.{◌≡◌, ℕ, ◌+◌, ◌==◌, ◌&&◌, ◌||◌, Bool, not, if◌then◌else◌, List, [], ◌∷◌, ◌++◌, length, map, nat_lt, Option, None, Some, Result, Ok, Err}
use Rattle.std.specs.List.{join_with_byte, list_all, slice_split}
use Rattle.std.specs.Str.{chars, is_utf8}
use Rattle.shm_lines.specs.Words.{◌>>=◌, wide_of, words_of}
use Rattle.shm_draw.specs.declared.caption.Caption.{Caption}
use Rattle.shm_draw.specs.declared.caption.CaptionFault.{CaptionFault}
use Rattle.shm_draw.specs.declared.caption.CaptionFault.TheVariants.{OutOfMemory, BadNote}

-- the number that the picture shows before the row, and what stands beside it
pub record Beside : Type 0 where
  pub line : ℕ
  pub text : List ℕ

abbrev pub beside_of : Caption → Beside
beside_of caption = record { line = caption.line; text = caption.text.now }

abbrev pub besides_of : List Caption → List Beside
besides_of captions = map beside_of captions

-- ---- one note

abbrev pub max_caption_bytes : ℕ
max_caption_bytes = 200

-- a control character, or one of the two that no XML text has
abbrev pub is_control : ℕ → Bool
is_control c = nat_lt c 32 || ((nat_lt 126 c && nat_lt c 160) || ((c == 0xFFFE) || (c == 0xFFFF)))

abbrev pub may_stand : ℕ → Bool
may_stand c = not (is_control c)

abbrev pub is_caption : List ℕ → Bool
is_caption text = not (nat_lt max_caption_bytes (length text)) && (is_utf8 text && list_all may_stand (chars text))

abbrev pub text_in : List ℕ → Option (List ℕ)
text_in bytes = if is_caption bytes then Some bytes else None

-- a line's number and its text; lines are numbered from 1
abbrev pub beside_from : List ℕ → List ℕ → Option Beside
beside_from number bytes = do
  line ← wide_of number
  text ← text_in bytes
  if line == 0 then None else Some (record { line = line; text = text })

-- the first blank parts them
abbrev pub from_words : List (List ℕ) → Option Beside
from_words [] = None
from_words (number ∷ []) = None
from_words (number ∷ word ∷ words) = beside_from number (join_with_byte 32 (word ∷ words))

abbrev pub beside_in : List ℕ → Option Beside
beside_in note = from_words (words_of note)

-- ---- all notes

-- the caption of the line of this number, or that number
abbrev pub or_bad : ℕ → Option Beside → Result (List Beside) ℕ
or_bad number None = Err number
or_bad number (Some beside) = Ok (beside ∷ [])

abbrev pub of_note : ℕ → List ℕ → Result (List Beside) ℕ
of_note number note = if length note == 0 then Ok [] else or_bad number (beside_in note)

-- these captions, and then the rest
abbrev pub then_rest : Result (List Beside) ℕ → Result (List Beside) ℕ → Result (List Beside) ℕ
then_rest (Err bad) rest = Err bad
then_rest (Ok first) (Err bad) = Err bad
then_rest (Ok first) (Ok others) = Ok (first ++ others)

-- from the line of this number on
abbrev pub of_notes : ℕ → List (List ℕ) → Result (List Beside) ℕ
of_notes number [] = Ok []
of_notes number (note ∷ notes) = then_rest (of_note number note) (of_notes (number + 1) notes)

abbrev pub lines_of : List ℕ → List (List ℕ)
lines_of bytes = slice_split (λ byte. byte == 10) bytes

-- the captions that notes have, or the number of the first line that has none
abbrev pub captions_in : List ℕ → Result (List Beside) ℕ
captions_in bytes = of_notes 1 (lines_of bytes)

-- memory was refused, or this is the line's number
abbrev pub IsFaultIn : Result (List Beside) ℕ → CaptionFault → Type 0
IsFaultIn notes OutOfMemory = Unit {0}
IsFaultIn notes (BadNote number) = notes ≡ Err number
