-- Notes: captions for lines of the script of what stands, as `shmdbg draw` reads them.
use Rattle.std.specs.Prelude.{◌≡◌, ℕ, ◌==◌, ◌&&◌, ◌<◌, ◌^◌, Bool, not, true, if◌then◌else◌, List, [], ◌∷◌, ◌++◌, codes, filter, nat_le, nat_lt, Option, None, Some, Ok}
use Rattle.std.specs.Fmt.{decimal}
use Rattle.std.specs.List.{join_with_byte, list_all}
use Rattle.shm_lines.specs.Words.{words_of}
use Rattle.shm_text.specs.Text.{line_text}
use Rattle.shm_draw.specs.Captions.{Beside, captions_in, is_caption}

-- a caption on one line
abbrev pub is_note : List ℕ → Bool
is_note text = is_caption text && list_all (λ byte. not (byte == 10)) text

-- it is one, for a line that there can be
pub record IsNote (note : Beside) : Type 0 where
  pub from_1 : 0 < note.line
  pub within : note.line < 2 ^ 64
  pub is : is_note note.text ≡ true

-- what stands behind the first blank of what was typed
abbrev pub text_behind : List (List ℕ) → Option (List ℕ)
text_behind [] = None
text_behind (verb ∷ []) = None
text_behind (verb ∷ word ∷ words) = Some (join_with_byte 32 (word ∷ words))

abbrev pub text_typed : List ℕ → Option (List ℕ)
text_typed typed = text_behind (words_of typed)

abbrev pub note : ℕ → List ℕ → Beside
note line text = record { line = line; text = text }

-- the notes of earlier lines, and this one of the last line
abbrev pub with_note : List Beside → ℕ → List ℕ → List Beside
with_note notes line text = filter (λ n. nat_lt n.line line) notes ++ note line text ∷ []

-- the notes of the lines up to this one
abbrev pub notes_up_to : ℕ → List Beside → List Beside
notes_up_to last notes = filter (λ n. nat_le n.line last) notes

-- ---- what is typed

-- the notes after a text for this line, if it is one
abbrev pub noted : List Beside → ℕ → Option (List ℕ) → List Beside
noted notes line None = notes
noted notes line (Some text) = if is_note text then with_note notes line text else notes

abbrev pub unnoted_text : List ℕ
unnoted_text = codes "not noted: a note has at most 200 bytes, in UTF-8 without control characters\n"

-- what is told then
abbrev pub told_noted : ℕ → Option (List ℕ) → List ℕ
told_noted line None = unnoted_text
told_noted line (Some text) = if is_note text then line_text line (codes "noted") else unnoted_text

-- ---- how they are saved

abbrev pub note_bytes : Beside → List ℕ
note_bytes n = decimal n.line ++ (32 ∷ (n.text ++ 10 ∷ []))

-- each on a line
abbrev pub notes_text : List Beside → List ℕ
notes_text [] = []
notes_text (n ∷ notes) = note_bytes n ++ notes_text notes

-- Pictures have these captions where their notes are these bytes.
abbrev pub AreDrawn : List ℕ → List Beside → Type 0
AreDrawn bytes notes = captions_in bytes ≡ Ok notes
