-- The first word of a line that is to bring bytes, in base64 or not: those of a page, or those that are to be stored or brought. The words
-- before it are as they are to be. Only a line that has such a word takes memory to be read.
use Rattle.std.specs.Prelude.{ℕ, Bool, List, [], ◌∷◌, codes, Option, is_some}
use Rattle.shm_lines.specs.Words.{◌>>=◌, next_of, next_number, next_word, wide_of, words_of}
use Rattle.shm_wire.specs.Messages.{next_page}
use Rattle.shm_wire.specs.Sent.{next_stamp}
use Rattle.shm_wire.specs.Tag.{tag_of}
use Rattle.shm_wire.specs.Unmaps.{next_keeps}
use Rattle.shm_wire.specs.Words.{Verbs, by_verb, kind_of, nothing}

-- a word, and those behind it
abbrev pub Next : Type 0
Next = List ℕ × List (List ℕ)

-- `offset bytes`
abbrev pub run_brings : List (List ℕ) → Option Next
run_brings words = do
  (offset, words) ← next_number words
  next_word words

-- `attachment offset bytes`
abbrev pub write_brings : List (List ℕ) → Option Next
write_brings words = do
  (at, words) ← next_number words
  run_brings words

-- `attachment page none` or `read`, and runs
abbrev pub unmap_brings : List (List ℕ) → Option Next
unmap_brings words = do
  (at, words) ← next_number words
  (index, words) ← next_number words
  (keeps, words) ← next_keeps words
  run_brings words

-- `attachment page`, and runs
abbrev pub sync_brings : List (List ℕ) → Option Next
sync_brings words = do
  (at, words) ← next_number words
  (index, words) ← next_number words
  run_brings words

abbrev pub bringing : Verbs Next
bringing = (codes "write", write_brings) ∷ (codes "unmap", unmap_brings) ∷ (codes "sync", sync_brings) ∷ []

-- `site tag ..`
abbrev pub ask_brings : List (List ℕ) → Option Next
ask_brings words = do
  (site, words) ← next_number words
  (tag, words) ← next_of tag_of words
  (verb, words) ← next_word words
  by_verb bringing nothing verb words

-- `seg index number kind bytes`
abbrev pub page_brings : List (List ℕ) → Option Next
page_brings words = do
  (page, words) ← next_page words
  (number, words) ← next_of wide_of words
  (kind, words) ← next_of kind_of words
  next_word words

abbrev pub message_brings : List (List ℕ) → Option Next
message_brings words = do
  (verb, words) ← next_word words
  by_verb ((codes "page", page_brings) ∷ []) nothing verb words

-- `from to clock index place message`
abbrev pub envelope_brings : List (List ℕ) → Option Next
envelope_brings words = do
  (from, words) ← next_number words
  (to, words) ← next_number words
  (source, words) ← next_stamp words
  message_brings words

abbrev pub words_bring : List (List ℕ) → Option Next
words_bring words = do
  (verb, words) ← next_word words
  by_verb ((codes "env", envelope_brings) ∷ (codes "ask", ask_brings) ∷ []) nothing verb words

-- whether memory may be missing for the line
abbrev pub may_grow : List ℕ → Bool
may_grow line = is_some (words_bring (words_of line))
