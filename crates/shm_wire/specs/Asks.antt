-- What a caller asks of a site, under a tag of its own: `ask SITE TAG`, and what a script's line says, less the site; or, in words that no
-- script has, an access that is tried once (`try-load`, `try-store`), a block that is read, the site's counts (`health`), or a page that is
-- mapped (`map`, `mappings`). What it asks to be stored at once stands in Writes.antt, and mappings that it gives up in Unmaps.antt.
use Rattle.std.specs.Prelude.{⊤, ◌≡◌, ℕ, ◌+◌, ◌^◌, ◌<◌, ◌&&◌, Bool, true, if◌then◌else◌, List, [], ◌∷◌, codes, nat_lt, Option, None, Some}
use Rattle.std.specs.Fmt.{decimal}
use Rattle.std.specs.List.{join_with_byte}
use Rattle.shm_place.specs.Limits.{page_bytes}
use Rattle.shm_model.specs.declared.asked_access.Asked.TheVariants.{Load, Store}
use Rattle.shm_model.specs.declared.event.Event.TheVariants as event
use Rattle.shm_lines.specs.Calls.{IsRequest, request_of, request_words}
use Rattle.shm_lines.specs.Words.{◌>>=◌, byte_of, next_of, next_number}
use Rattle.shm_lines.specs.Spelling as script
use Rattle.shm_lines.specs.Spelling.{IsNumber}
use Rattle.shm_wire.specs.Messages.{IsPageId, next_page}
use Rattle.shm_wire.specs.Tag.{IsTag}
use Rattle.shm_wire.specs.TagOf.{tag_text}
use Rattle.shm_wire.specs.Words.{Verbs, by_verb, ended, kind_of, kind_word}
use Rattle.shm_wire.specs.declared.caller_ask.Ask.{Ask as CodeAsk}
use Rattle.shm_wire.specs.declared.caller_ask.Question.{Question}
use Rattle.shm_wire.specs.declared.caller_ask.Question.TheVariants.{Access, Try, Read, Begin, Tick, Show, Health, Map, Mappings}

-- ---- what is asked

-- bytes one after another: at most a page, and each at an offset that there is
abbrev pub is_block : ℕ → ℕ → Bool
is_block offset count = nat_lt 0 count && nat_lt count (page_bytes + 1) && nat_lt (offset + count) (2 ^ 32 + 1)

abbrev pub IsBlock : ℕ → ℕ → Type 0
IsBlock offset count = is_block offset count ≡ true

abbrev pub IsAsked : Question → Type 0
IsAsked (Access (Load at offset)) = IsNumber at × IsNumber offset
IsAsked (Access (Store at offset byte)) = IsNumber at × IsNumber offset × (byte < 256)
IsAsked (Try (Load at offset)) = IsNumber at × IsNumber offset
IsAsked (Try (Store at offset byte)) = IsNumber at × IsNumber offset × (byte < 256)
IsAsked (Read at offset count) = IsNumber at × IsNumber offset × IsNumber count × IsBlock offset count
IsAsked (Begin request) = IsRequest request
IsAsked Tick = ⊤
IsAsked (Show page) = IsPageId page
IsAsked Health = ⊤
IsAsked (Map at index kind) = IsNumber at × IsNumber index
IsAsked Mappings = ⊤

-- a script's words without the site, which is their second
abbrev pub less_site : List (List ℕ) → List (List ℕ)
less_site (verb ∷ site ∷ words) = verb ∷ words
less_site words = words

abbrev pub asked_words : Question → List (List ℕ)
asked_words (Access (Load at offset)) = less_site (script.event_words (event.Load 0 at offset))
asked_words (Access (Store at offset byte)) = less_site (script.event_words (event.Store 0 at offset byte))
asked_words (Try (Load at offset)) = codes "try-load" ∷ decimal at ∷ decimal offset ∷ []
asked_words (Try (Store at offset byte)) = codes "try-store" ∷ decimal at ∷ decimal offset ∷ decimal byte ∷ []
asked_words (Read at offset count) = codes "read" ∷ decimal at ∷ decimal offset ∷ decimal count ∷ []
asked_words (Begin request) = request_words request
asked_words Tick = less_site (script.event_words (event.Tick 0))
asked_words (Show page) = codes "show" ∷ decimal page.seg ∷ decimal page.index ∷ []
asked_words Health = codes "health" ∷ []
asked_words (Map at index kind) = codes "map" ∷ decimal at ∷ decimal index ∷ kind_word kind ∷ []
asked_words Mappings = codes "mappings" ∷ []

-- `load attachment offset`
abbrev pub load_of : List (List ℕ) → Option Question
load_of words = do
  (at, words) ← next_number words
  (offset, words) ← next_number words
  ended (Access (Load at offset)) words

-- `store attachment offset byte`
abbrev pub store_of : List (List ℕ) → Option Question
store_of words = do
  (at, words) ← next_number words
  (offset, words) ← next_number words
  (byte, words) ← next_of byte_of words
  ended (Access (Store at offset byte)) words

-- `try-load attachment offset`
abbrev pub try_load_of : List (List ℕ) → Option Question
try_load_of words = do
  (at, words) ← next_number words
  (offset, words) ← next_number words
  ended (Try (Load at offset)) words

-- `try-store attachment offset byte`
abbrev pub try_store_of : List (List ℕ) → Option Question
try_store_of words = do
  (at, words) ← next_number words
  (offset, words) ← next_number words
  (byte, words) ← next_of byte_of words
  ended (Try (Store at offset byte)) words

-- `read attachment offset length`
abbrev pub read_of : List (List ℕ) → Option Question
read_of words = do
  (at, words) ← next_number words
  (offset, words) ← next_number words
  (count, words) ← next_number words
  if is_block offset count then ended (Read at offset count) words else None

-- `show segment index`
abbrev pub show_of : List (List ℕ) → Option Question
show_of words = do
  (page, words) ← next_page words
  ended (Show page) words

-- `map attachment page read` or `write`
abbrev pub map_of : List (List ℕ) → Option Question
map_of words = do
  (at, words) ← next_number words
  (index, words) ← next_number words
  (kind, words) ← next_of kind_of words
  ended (Map at index kind) words

-- segment calls
abbrev pub begun_of : List ℕ → List (List ℕ) → Option Question
begun_of verb words = do
  request ← request_of verb words
  Some (Begin request)

abbrev pub own : Verbs Question
own =
    (codes "load", load_of) ∷ (codes "store", store_of) ∷ (codes "try-load", try_load_of) ∷ (codes "try-store", try_store_of)
    ∷ (codes "read", read_of) ∷ (codes "tick", ended Tick) ∷ (codes "show", show_of) ∷ (codes "health", ended Health)
    ∷ (codes "map", map_of) ∷ (codes "mappings", ended Mappings) ∷ []

abbrev pub asked_by : List ℕ → List (List ℕ) → Option Question
asked_by = by_verb own begun_of

-- ---- the line

pub record Ask : Type 0 where
  pub site : ℕ
  pub tag : List ℕ
  pub asked : Question

abbrev pub ask_of : CodeAsk → Ask
ask_of ask = record { site = ask.site; tag = tag_text ask.tag; asked = ask.asked }

-- the asks that have a line
abbrev pub IsAsk : Ask → Type 0
IsAsk ask = IsNumber ask.site × IsTag ask.tag × IsAsked ask.asked

abbrev pub ask_words : Ask → List (List ℕ)
ask_words ask = codes "ask" ∷ decimal ask.site ∷ ask.tag ∷ asked_words ask.asked

abbrev pub ask_line : Ask → List ℕ
ask_line ask = join_with_byte 32 (ask_words ask)

-- behind a site and a tag
abbrev pub ask_under : ℕ → List ℕ → List ℕ → List (List ℕ) → Option Ask
ask_under site tag verb words = do
  asked ← asked_by verb words
  Some (record { site = site; tag = tag; asked = asked })
