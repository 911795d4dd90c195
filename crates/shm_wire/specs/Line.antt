-- What a line of the stream tells a site: an envelope, or what a caller asks, which may be bytes to store, or a mapping to give up. Its
-- first word says whether it is an envelope. One spelling for each.
use Rattle.std.specs.Prelude.{ℕ, List, [], ◌∷◌, codes, Option, option_map}
use Rattle.std.specs.List.{join_with_byte}
use Rattle.shm_lines.specs.Words.{◌>>=◌, next_of, next_number, next_word, words_of}
use Rattle.shm_wire.specs.Asks as asks
use Rattle.shm_wire.specs.Sent as sent
use Rattle.shm_wire.specs.Tag.{tag_of}
use Rattle.shm_wire.specs.Unmaps as unmaps
use Rattle.shm_wire.specs.Words.{Verbs, by_verb, nothing}
use Rattle.shm_wire.specs.Writes as writes

pub data Line : Type 0 where
  Envelope : sent.Sent → Line
  Ask : asks.Ask → Line
  Write : writes.WriteAsk → Line
  Unmap : unmaps.UnmapAsk → Line

-- the lines that there are
abbrev pub IsLine : Line → Type 0
IsLine (Envelope e) = sent.IsSent e
IsLine (Ask ask) = asks.IsAsk ask
IsLine (Write write) = writes.IsWrite write
IsLine (Unmap unmap) = unmaps.IsUnmap unmap

abbrev pub line_words : Line → List (List ℕ)
line_words (Envelope e) = sent.envelope_words e
line_words (Ask ask) = asks.ask_words ask
line_words (Write write) = writes.write_words write
line_words (Unmap unmap) = unmaps.unmap_words unmap

abbrev pub line_text : Line → List ℕ
line_text line = join_with_byte 32 (line_words line)

-- ---- how it is read

-- the asks that bring bytes
abbrev pub bringing : ℕ → List ℕ → Verbs Line
bringing site tag =
    (codes "write", λ words. option_map Write (writes.stores_of site tag words))
    ∷ (codes "unmap", λ words. option_map Unmap (unmaps.unmap_of site tag words))
    ∷ (codes "sync", λ words. option_map Unmap (unmaps.sync_of site tag words))
    ∷ []

-- behind a site and a tag: an ask that brings bytes, or another
abbrev pub asked_under : ℕ → List ℕ → List ℕ → List (List ℕ) → Option Line
asked_under site tag =
    by_verb (bringing site tag)
    (λ verb words. option_map Ask (asks.ask_under site tag verb words))

-- `site tag ..`
abbrev pub asked_of : List (List ℕ) → Option Line
asked_of words = do
  (site, words) ← next_number words
  (tag, words) ← next_of tag_of words
  (verb, words) ← next_word words
  asked_under site tag verb words

abbrev pub lines : Verbs Line
lines = (codes "env", λ words. option_map Envelope (sent.sent_of words)) ∷ (codes "ask", asked_of) ∷ []

abbrev pub line_of_words : List (List ℕ) → Option Line
line_of_words words = do
  (verb, words) ← next_word words
  by_verb lines nothing verb words

abbrev pub read_line : List ℕ → Option Line
read_line bytes = line_of_words (words_of bytes)
