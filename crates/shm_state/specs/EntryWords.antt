-- What a site has of a page, as words: `gone`, `copy`, `own-read`, `own-write` or `handed`, the number that it met last, and the page's bytes.
use Rattle.std.specs.Prelude.{ℕ, List, [], ◌∷◌, codes, Option, Some}
use Rattle.std.specs.Fmt.{decimal}
use Rattle.shm_model.specs.Entry.{Entry, Nil, Copy, OwnRead, OwnWrite, Handed}
use Rattle.shm_lines.specs.Words.{◌>>=◌, next_word, next_of, next_number, IsWide, wide_of}
use Rattle.shm_lines.specs.Spelling.{IsNumber}
use Rattle.shm_wire.specs.BytesWord.{bytes_word}
use Rattle.shm_wire.specs.PageWord.{IsPage, page_bytes_of}
use Rattle.shm_wire.specs.Words.{Verbs, by_verb, ended, nothing}

abbrev pub IsEntry : Entry → Type 0
IsEntry (Nil number) = IsWide number
IsEntry (Copy number bytes) = IsWide number × IsPage bytes
IsEntry (OwnRead number bytes) = IsWide number × IsPage bytes
IsEntry (OwnWrite number bytes) = IsWide number × IsPage bytes
IsEntry (Handed number to bytes) = IsWide number × IsNumber to × IsPage bytes

abbrev pub entry_words : Entry → List (List ℕ)
entry_words (Nil number) = codes "gone" ∷ decimal number ∷ []
entry_words (Copy number bytes) = codes "copy" ∷ decimal number ∷ bytes_word bytes ∷ []
entry_words (OwnRead number bytes) = codes "own-read" ∷ decimal number ∷ bytes_word bytes ∷ []
entry_words (OwnWrite number bytes) = codes "own-write" ∷ decimal number ∷ bytes_word bytes ∷ []
entry_words (Handed number to bytes) = codes "handed" ∷ decimal number ∷ decimal to ∷ bytes_word bytes ∷ []

-- ---- how they are read

-- `gone number`
abbrev pub gone_of : List (List ℕ) → Option Entry
gone_of words = do
  (number, words) ← next_of wide_of words
  ended (Nil number) words

-- `number bytes`
abbrev pub numbered_bytes_of : List (List ℕ) → Option (ℕ × List ℕ)
numbered_bytes_of words = do
  (number, words) ← next_of wide_of words
  (bytes, words) ← next_of page_bytes_of words
  ended (number, bytes) words

-- `copy number bytes`; `own-read` and `own-write` alike
abbrev pub filled_of : (ℕ → List ℕ → Entry) → List (List ℕ) → Option Entry
filled_of entry words = do
  (number, bytes) ← numbered_bytes_of words
  Some (entry number bytes)

-- `handed number site bytes`
abbrev pub handed_of : List (List ℕ) → Option Entry
handed_of words = do
  (number, words) ← next_of wide_of words
  (to, words) ← next_number words
  (bytes, words) ← next_of page_bytes_of words
  ended (Handed number to bytes) words

abbrev pub standings : Verbs Entry
standings =
    (codes "gone", gone_of) ∷ (codes "copy", filled_of Copy) ∷ (codes "own-read", filled_of OwnRead) ∷ (codes "own-write", filled_of OwnWrite)
    ∷ (codes "handed", handed_of) ∷ []

abbrev pub entry_of : List (List ℕ) → Option Entry
entry_of words = do
  (verb, words) ← next_word words
  by_verb standings nothing verb words
