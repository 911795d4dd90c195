-- Messages between sites as words: the message's kind, and its fields.
use Rattle.std.specs.Prelude.{ℕ, ◌<◌, if◌then◌else◌, List, [], ◌∷◌, codes, nat_lt, Option, None, Some}
use Rattle.std.specs.Fmt.{decimal}
use Rattle.shm_place.specs.declared.page_id.PageId.{PageId}
use Rattle.shm_model.specs.Entry.{Note, Ask, Clear, Cleared, Hand, Page, Confirm}
use Rattle.shm_model.specs.Message.{Message, Of, Call, Replies, Purge, Purged}
use Rattle.shm_lines.specs.Words.{◌>>=◌, next_word, next_of, next_number, IsWide, wide_of}
use Rattle.shm_lines.specs.Spelling.{IsNumber}
use Rattle.shm_lines.specs.Calls.{IsCall, call_of, call_words}
use Rattle.shm_wire.specs.BytesWord.{bytes_word}
use Rattle.shm_wire.specs.PageWord.{IsPage, page_bytes_of}
use Rattle.shm_wire.specs.Replies.{IsReply, reply_of, reply_words}
use Rattle.shm_wire.specs.Words.{Verbs, by_verb, ended, kind_of, kind_word, nothing}

-- ---- the messages that have words

abbrev pub IsPageId : PageId → Type 0
IsPageId page = IsNumber page.seg × IsNumber page.index

-- a page's bytes are sent in a transaction, and those have numbers from 1
abbrev pub IsNote : Note → Type 0
IsNote (Ask request kind) = IsWide request
IsNote (Clear number) = IsWide number
IsNote (Cleared number) = IsWide number
IsNote (Hand number kind to) = IsWide number × IsNumber to
IsNote (Page number kind bytes) = IsWide number × (0 < number) × IsPage bytes
IsNote (Confirm number) = IsWide number

abbrev pub IsMessage : Message → Type 0
IsMessage (Of page note) = IsPageId page × IsNote note
IsMessage (Call number op) = IsWide number × IsCall op
IsMessage (Replies number reply) = IsWide number × IsReply reply
IsMessage (Purge id) = IsNumber id
IsMessage (Purged id) = IsNumber id

-- ---- their words

abbrev pub of_page : PageId → ℕ → List (List ℕ) → List (List ℕ)
of_page page number words = decimal page.seg ∷ decimal page.index ∷ decimal number ∷ words

abbrev pub note_words : PageId → Note → List (List ℕ)
note_words page (Ask request kind) = codes "ask" ∷ of_page page request (kind_word kind ∷ [])
note_words page (Clear number) = codes "clear" ∷ of_page page number []
note_words page (Cleared number) = codes "cleared" ∷ of_page page number []
note_words page (Hand number kind to) = codes "hand" ∷ of_page page number (kind_word kind ∷ decimal to ∷ [])
note_words page (Page number kind bytes) = codes "page" ∷ of_page page number (kind_word kind ∷ bytes_word bytes ∷ [])
note_words page (Confirm number) = codes "confirm" ∷ of_page page number []

abbrev pub message_words : Message → List (List ℕ)
message_words (Of page note) = note_words page note
message_words (Call number op) = codes "call" ∷ decimal number ∷ call_words op
message_words (Replies number reply) = codes "reply" ∷ decimal number ∷ reply_words reply
message_words (Purge id) = codes "purge" ∷ decimal id ∷ []
message_words (Purged id) = codes "purged" ∷ decimal id ∷ []

-- ---- how they are read

-- a page
abbrev pub next_page : List (List ℕ) → Option (PageId × List (List ℕ))
next_page words = do
  (seg, words) ← next_number words
  (index, words) ← next_number words
  Some (record { seg = seg; index = index }, words)

-- `ask seg index request kind`
abbrev pub ask_of : List (List ℕ) → Option Message
ask_of words = do
  (page, words) ← next_page words
  (request, words) ← next_of wide_of words
  (kind, words) ← next_of kind_of words
  ended (Of page (Ask request kind)) words

-- `clear seg index number`; `cleared` and `confirm` alike
abbrev pub numbered_of : (ℕ → Note) → List (List ℕ) → Option Message
numbered_of note words = do
  (page, words) ← next_page words
  (number, words) ← next_of wide_of words
  ended (Of page (note number)) words

-- `hand seg index number kind site`
abbrev pub hand_of : List (List ℕ) → Option Message
hand_of words = do
  (page, words) ← next_page words
  (number, words) ← next_of wide_of words
  (kind, words) ← next_of kind_of words
  (to, words) ← next_number words
  ended (Of page (Hand number kind to)) words

-- `page seg index number kind bytes`
abbrev pub page_of : List (List ℕ) → Option Message
page_of words = do
  (page, words) ← next_page words
  (number, words) ← next_of wide_of words
  (kind, words) ← next_of kind_of words
  (bytes, words) ← next_of page_bytes_of words
  if nat_lt 0 number then ended (Of page (Page number kind bytes)) words else None

-- `call number call`
abbrev pub called_of : List (List ℕ) → Option Message
called_of words = do
  (number, words) ← next_of wide_of words
  op ← call_of words
  Some (Call number op)

-- `reply number reply`
abbrev pub replied_of : List (List ℕ) → Option Message
replied_of words = do
  (number, words) ← next_of wide_of words
  reply ← reply_of words
  Some (Replies number reply)

-- `purge id`; `purged` alike
abbrev pub of_segment : (ℕ → Message) → List (List ℕ) → Option Message
of_segment message words = do
  (id, words) ← next_number words
  ended (message id) words

-- messages without a page's bytes
abbrev pub plain : Verbs Message
plain =
    (codes "ask", ask_of) ∷ (codes "clear", numbered_of Clear) ∷ (codes "cleared", numbered_of Cleared) ∷ (codes "hand", hand_of)
    ∷ (codes "confirm", numbered_of Confirm) ∷ (codes "call", called_of) ∷ (codes "reply", replied_of)
    ∷ (codes "purge", of_segment Purge) ∷ (codes "purged", of_segment Purged) ∷ []

abbrev pub plain_of : List ℕ → List (List ℕ) → Option Message
plain_of = by_verb plain nothing

abbrev pub message_of : List (List ℕ) → Option Message
message_of words = do
  (verb, words) ← next_word words
  by_verb ((codes "page", page_of) ∷ []) plain_of verb words
