-- What is saved through the prompt, file by file, and what `save` and `notes` save and tell.
use Rattle.std.specs.Prelude.{⊤, ◌≡◌, ◌==◌, ◌&&◌, ◌||◌, ◌⊎◌, ℕ, Bool, not, if◌then◌else◌, List, [], ◌∷◌, ◌++◌, codes, nat_lt, Option, None, Some}
use Rattle.std.specs.List.{list_any}
use Rattle.std.specs.Str.{is_utf8}
use Rattle.shm_debug.specs.Standing.{Standing}
use Rattle.shm_lines.specs.Words.{◌>>=◌, next_word, words_of}
use Rattle.shm_draw.specs.Captions.{Beside}
use Rattle.shm_prompt.specs.Notes.{AreDrawn, notes_text}
use Rattle.shm_prompt.specs.Saved.{lines_of, text_of_lines}
use Rattle.shm_prompt.specs.Spelled.{AreRefused, refusal_words}
use Rattle.shm_prompt.specs.declared.save_refusal.SaveRefusal.{SaveRefusal}

-- a file of this name was written whole, with these bytes; or it couldn't be
pub data Save : Type 0 where
  Whole : List ℕ → List ℕ → Save
  Failed : List ℕ → List ℕ → Save

-- of saves that are known there is this one more
abbrev pub Adds : Option (List Save) → Option (List Save) → Save → Type 0
Adds None new save = ⊤
Adds (Some before) None save = ⊥
Adds (Some before) (Some now) save = now ≡ before ++ save ∷ []

-- the file that `save FILE` names
abbrev pub name_typed : List ℕ → Option (List ℕ)
name_typed typed = do
  (verb, words) ← next_word (words_of typed)
  (name, words) ← next_word words
  Some name

abbrev pub is_control : ℕ → Bool
is_control byte = nat_lt byte 32 || (byte == 127)

-- a name that a terminal can be told
abbrev pub is_file_name : List ℕ → Bool
is_file_name name = not (list_any is_control name) && is_utf8 name

abbrev pub name_in : List ℕ → Option (List ℕ)
name_in word = if is_file_name word then Some word else None

-- the file that is named, if that is one
abbrev pub file_named : List ℕ → Option (List ℕ)
file_named typed = do
  name ← name_typed typed
  name_in name

-- what is told of a file that was written
abbrev pub saved_to : List ℕ → List ℕ
saved_to name = codes "saved to " ++ (name ++ codes "\n")

-- what is told where nothing was saved, for this cause
abbrev pub not_saved : List ℕ → List ℕ
not_saved why = codes "not saved: " ++ why

abbrev pub unnamed : List ℕ
unnamed = not_saved (codes "the file's name is no text\n")

-- what is told of a file that couldn't be written
abbrev pub unwritten : List ℕ → List ℕ
unwritten name = not_saved (name ++ codes " can't be written\n")

-- this file was written, which is told; or it couldn't be, which is told
abbrev pub Writes : List ℕ → List ℕ → Option (List Save) → Option (List Save) → List ℕ → List ℕ → Type 0
Writes name bytes old new text text' =
    (Adds old new (Whole name bytes) × (text' ≡ text ++ saved_to name)) ⊎ (Adds old new (Failed name bytes) × (text' ≡ text ++ unwritten name))

-- the script of what stands is refused, for a cause that is so and is told
pub record Refuses (s : Standing) (text text' : List ℕ) : Type 0 where
  pub refusal : SaveRefusal
  pub so : AreRefused (lines_of s) refusal
  pub told : text' ≡ text ++ not_saved (refusal_words refusal ++ codes "\n")

-- the whole script, under this name, or nothing at all, where it is refused; where there is no name, nothing
abbrev pub SavesScript : Standing → Option (List ℕ) → Option (List Save) → Option (List Save) → List ℕ → List ℕ → Type 0
SavesScript s None old new text text' = (new ≡ old) × (text' ≡ text ++ unnamed)
SavesScript s (Some name) old new text text' = ((new ≡ old) × Refuses s text text') ⊎ Writes name (text_of_lines (lines_of s)) old new text text'

-- the same of the name that was typed; where no sites stand nothing is saved
abbrev pub SavesTyped : Option Standing → List ℕ → Option (List Save) → Option (List Save) → List ℕ → List ℕ → Type 0
SavesTyped None typed old new text text' = new ≡ old
SavesTyped (Some s) typed old new text text' = SavesScript s (file_named typed) old new text text'

-- ---- `notes`

-- all notes, under this name, as captions of pictures; where there is none, nothing
abbrev pub SavesUnder : Option (List ℕ) → List Beside → Option (List Save) → Option (List Save) → List ℕ → List ℕ → Type 0
SavesUnder None notes old new text text' = (new ≡ old) × (text' ≡ text ++ unnamed)
SavesUnder (Some name) notes old new text text' = Writes name (notes_text notes) old new text text' × AreDrawn (notes_text notes) notes

-- the same of the name that was typed; where no sites stand nothing is saved
abbrev pub SavesNotes : Option Standing → List Beside → List ℕ → Option (List Save) → Option (List Save) → List ℕ → List ℕ → Type 0
SavesNotes None notes typed old new text text' = new ≡ old
SavesNotes (Some s) notes typed old new text text' = SavesUnder (file_named typed) notes old new text text'

-- ---- what is saved where memory is refused

-- this file was written, or couldn't be
abbrev pub Tries : List ℕ → List ℕ → Option (List Save) → Option (List Save) → Type 0
Tries name bytes old new = Adds old new (Whole name bytes) ⊎ Adds old new (Failed name bytes)

-- it at most; where there is no name, nothing
abbrev pub MayTry : Option (List ℕ) → List ℕ → Option (List Save) → Option (List Save) → Type 0
MayTry None bytes old new = new ≡ old
MayTry (Some name) bytes old new = (new ≡ old) ⊎ Tries name bytes old new

-- at most the script, and at most the notes; where no sites stand, nothing
abbrev pub HaltsScript : Option Standing → List ℕ → Option (List Save) → Option (List Save) → Type 0
HaltsScript None typed old new = new ≡ old
HaltsScript (Some s) typed old new = MayTry (file_named typed) (text_of_lines (lines_of s)) old new

abbrev pub HaltsNotes : Option Standing → List Beside → List ℕ → Option (List Save) → Option (List Save) → Type 0
HaltsNotes None notes typed old new = new ≡ old
HaltsNotes (Some s) notes typed old new = MayTry (file_named typed) (notes_text notes) old new
