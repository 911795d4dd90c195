-- The parts of a site's state as words: `state`, what the part is, and its fields. One spelling for each.
use Rattle.std.specs.Prelude.{ℕ, List, [], ◌∷◌, codes, Option, Some}
use Rattle.std.specs.Fmt.{decimal}
use Rattle.std.specs.List.{join_with_byte}
use Rattle.shm_place.specs.declared.page_id.PageId.{PageId}
use Rattle.shm_model.specs.Mode.{mode_word}
use Rattle.shm_model.specs.Permission as tables
use Rattle.shm_lines.specs.Words.{◌>>=◌, access_of, mode_of, next_word, next_of, next_number, next_cred, IsWide, wide_of, words_of}
use Rattle.shm_lines.specs.Spelling.{IsNumber, IsMode, access_word}
use Rattle.shm_lines.specs.Calls.{IsCall, call_of, call_words}
use Rattle.shm_wire.specs.Messages.{IsPageId, next_page}
use Rattle.shm_wire.specs.Replies.{IsReply, reply_of, reply_words}
use Rattle.shm_wire.specs.Words.{Verbs, by_verb, ended, nothing, standing_of, standing_word}
use Rattle.shm_state.specs.BookWords as books
use Rattle.shm_state.specs.BookWords.{IsBook, book_words}
use Rattle.shm_state.specs.EntryWords as entries
use Rattle.shm_state.specs.EntryWords.{IsEntry, entry_words}
use Rattle.shm_state.specs.Part.{Part, Requests, Calls, Outstanding, Segment, Missing, Kept, Entry, Purged, Attachment, Book}
use Rattle.shm_state.specs.SetWord.{IsSet, set_of, set_word}

-- ---- the parts that have words

abbrev pub IsSegment : tables.Segment → Type 0
IsSegment g =
    IsNumber g.id × IsNumber g.key × IsNumber g.size × IsMode g.mode × IsNumber g.uid × IsNumber g.gid × IsNumber g.cuid × IsNumber g.cgid × IsWide g.nattch

abbrev pub IsPart : Part → Type 0
IsPart (Requests number) = IsWide number
IsPart (Calls number) = IsWide number
IsPart (Outstanding number op) = IsWide number × IsCall op
IsPart (Segment g) = IsSegment g
IsPart (Missing purge) = IsNumber purge.id × IsSet purge.missing
IsPart (Kept site number reply) = IsNumber site × IsWide number × IsReply reply
IsPart (Entry page entry) = IsPageId page × IsEntry entry
IsPart (Purged id) = IsNumber id
IsPart (Attachment number a) = IsNumber number × IsNumber a.id × IsNumber a.size
IsPart (Book page book) = IsPageId page × IsBook book

-- ---- their words

abbrev pub of_page : PageId → List (List ℕ) → List (List ℕ)
of_page page words = decimal page.seg ∷ decimal page.index ∷ words

abbrev pub segment_words : tables.Segment → List (List ℕ)
segment_words g =
    decimal g.id ∷ decimal g.key ∷ decimal g.size ∷ mode_word g.mode ∷ decimal g.uid ∷ decimal g.gid ∷ decimal g.cuid ∷ decimal g.cgid
    ∷ decimal g.nattch ∷ standing_word g.marked ∷ []

-- behind `state`
abbrev pub told_words : Part → List (List ℕ)
told_words (Requests number) = codes "requests" ∷ decimal number ∷ []
told_words (Calls number) = codes "calls" ∷ decimal number ∷ []
told_words (Outstanding number op) = codes "outstanding" ∷ decimal number ∷ call_words op
told_words (Segment g) = codes "segment" ∷ segment_words g
told_words (Missing purge) = codes "missing" ∷ decimal purge.id ∷ set_word purge.missing ∷ []
told_words (Kept site number reply) = codes "kept" ∷ decimal site ∷ decimal number ∷ reply_words reply
told_words (Entry page entry) = codes "entry" ∷ of_page page (entry_words entry)
told_words (Purged id) = codes "purged" ∷ decimal id ∷ []
told_words (Attachment number a) = codes "attachment" ∷ decimal number ∷ decimal a.id ∷ decimal a.size ∷ access_word a.ro ∷ []
told_words (Book page book) = codes "book" ∷ of_page page (book_words book)

abbrev pub part_words : Part → List (List ℕ)
part_words part = codes "state" ∷ told_words part

abbrev pub part_line : Part → List ℕ
part_line part = join_with_byte 32 (part_words part)

-- ---- how they are read

-- `requests number`; `calls` alike
abbrev pub counted_of : (ℕ → Part) → List (List ℕ) → Option Part
counted_of part words = do
  (number, words) ← next_of wide_of words
  ended (part number) words

-- `purged id`
abbrev pub purged_of : List (List ℕ) → Option Part
purged_of words = do
  (id, words) ← next_number words
  ended (Purged id) words

-- `outstanding number call`
abbrev pub outstanding_of : List (List ℕ) → Option Part
outstanding_of words = do
  (number, words) ← next_of wide_of words
  op ← call_of words
  Some (Outstanding number op)

-- `segment id key size mode uid gid cuid cgid nattch marked` or `live`
abbrev pub segment_of : List (List ℕ) → Option Part
segment_of words = do
  (id, words) ← next_number words
  (key, words) ← next_number words
  (size, words) ← next_number words
  (mode, words) ← next_of mode_of words
  (owner, words) ← next_cred words
  (creator, words) ← next_cred words
  (nattch, words) ← next_of wide_of words
  (marked, words) ← next_of standing_of words
  ended (Segment (record {
    id = id;
    key = key;
    uid = owner.uid;
    gid = owner.gid;
    cuid = creator.uid;
    cgid = creator.gid;
    mode = mode;
    size = size;
    nattch = nattch;
    marked = marked;
  })) words

-- `missing id sites`
abbrev pub missing_of : List (List ℕ) → Option Part
missing_of words = do
  (id, words) ← next_number words
  (missing, words) ← next_of set_of words
  ended (Missing (record { id = id; missing = missing })) words

-- `kept site number reply`
abbrev pub kept_of : List (List ℕ) → Option Part
kept_of words = do
  (site, words) ← next_number words
  (number, words) ← next_of wide_of words
  reply ← reply_of words
  Some (Kept site number reply)

-- `attachment number id size ro` or `rw`
abbrev pub attachment_of : List (List ℕ) → Option Part
attachment_of words = do
  (number, words) ← next_number words
  (id, words) ← next_number words
  (size, words) ← next_number words
  (ro, words) ← next_of access_of words
  ended (Attachment number (record { id = id; size = size; ro = ro })) words

-- `entry seg index entry`
abbrev pub entry_of : List (List ℕ) → Option Part
entry_of words = do
  (page, words) ← next_page words
  entry ← entries.entry_of words
  Some (Entry page entry)

-- `book seg index book`
abbrev pub book_of : List (List ℕ) → Option Part
book_of words = do
  (page, words) ← next_page words
  book ← books.book_of words
  Some (Book page book)

-- what a site keeps of its requests and calls, and as a home
abbrev pub of_calls : Verbs Part
of_calls =
    (codes "requests", counted_of Requests) ∷ (codes "calls", counted_of Calls) ∷ (codes "outstanding", outstanding_of)
    ∷ (codes "segment", segment_of) ∷ (codes "missing", missing_of) ∷ (codes "kept", kept_of) ∷ []

-- what it keeps of pages, without their bytes
abbrev pub of_pages : Verbs Part
of_pages =
    (codes "purged", purged_of) ∷ (codes "attachment", attachment_of) ∷ (codes "book", book_of) ∷ []

abbrev pub pages_of : List ℕ → List (List ℕ) → Option Part
pages_of = by_verb of_pages nothing

abbrev pub plain_of : List ℕ → List (List ℕ) → Option Part
plain_of = by_verb of_calls pages_of

abbrev pub told_of : List (List ℕ) → Option Part
told_of words = do
  (verb, words) ← next_word words
  by_verb ((codes "entry", entry_of) ∷ []) plain_of verb words

abbrev pub part_of : List (List ℕ) → Option Part
part_of words = do
  (word, words) ← next_word words
  by_verb ((codes "state", told_of) ∷ []) nothing word words

abbrev pub read_part : List ℕ → Option Part
read_part line = part_of (words_of line)
