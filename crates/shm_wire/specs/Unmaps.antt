-- A mapping that a caller gives up or turns from write into read, or whose bytes alone it brings, under a tag of its own: `ask SITE TAG
-- unmap ATTACHMENT PAGE none` or `read`, or `ask SITE TAG sync ATTACHMENT PAGE`; and the bytes that changed, as runs: an offset in the
-- segment, and their base64.
use Rattle.std.specs.Prelude.{ℕ, if◌then◌else◌, List, [], ◌∷◌, ◌++◌, codes, length, Option, None, Some, All}
use Rattle.std.specs.Fmt.{decimal}
use Rattle.std.specs.List.{join_with_byte}
use Rattle.base64.specs.GeneralPurpose.{IsBytes}
use Rattle.shm_model.specs.declared.request_kind.Kind.{Kind}
use Rattle.shm_model.specs.declared.request_kind.Kind.TheVariants.{Read, Write}
use Rattle.shm_lines.specs.Words.{◌>>=◌, next_of, next_number}
use Rattle.shm_lines.specs.Spelling.{IsNumber}
use Rattle.shm_wire.specs.Asks.{IsBlock, is_block}
use Rattle.shm_wire.specs.BytesWord.{bytes_of, bytes_word}
use Rattle.shm_wire.specs.Tag.{IsTag}
use Rattle.shm_wire.specs.Words.{Names, by_name}

-- bytes one after another, from this offset on
pub record Run : Type 0 where
  pub offset : ℕ
  pub bytes : List ℕ

-- the attachment, the page's index in its segment, what stays mapped, and what changed. Where `Write` stays, the bytes alone are brought.
pub record UnmapAsk : Type 0 where
  pub site : ℕ
  pub tag : List ℕ
  pub at : ℕ
  pub index : ℕ
  pub keeps : Option Kind
  pub runs : List Run

-- ---- those that have a line

abbrev pub IsRun : Run → Type 0
IsRun run = IsNumber run.offset × IsBlock run.offset (length run.bytes) × IsBytes run.bytes

abbrev pub IsUnmap : UnmapAsk → Type 0
IsUnmap unmap = IsNumber unmap.site × IsTag unmap.tag × IsNumber unmap.at × IsNumber unmap.index × All IsRun unmap.runs

-- ---- their words

abbrev pub run_words : List Run → List (List ℕ)
run_words [] = []
run_words (run ∷ runs) = decimal run.offset ∷ bytes_word run.bytes ∷ run_words runs

-- a run with a blank before each of its words
abbrev pub run_text : Run → List ℕ
run_text run = 32 ∷ (decimal run.offset ++ 32 ∷ bytes_word run.bytes)

abbrev pub mapping_words : ℕ → ℕ → Option Kind → List (List ℕ) → List (List ℕ)
mapping_words at index None words = codes "unmap" ∷ decimal at ∷ decimal index ∷ codes "none" ∷ words
mapping_words at index (Some Read) words = codes "unmap" ∷ decimal at ∷ decimal index ∷ codes "read" ∷ words
mapping_words at index (Some Write) words = codes "sync" ∷ decimal at ∷ decimal index ∷ words

abbrev pub unmap_words : UnmapAsk → List (List ℕ)
unmap_words unmap = codes "ask" ∷ decimal unmap.site ∷ unmap.tag ∷ mapping_words unmap.at unmap.index unmap.keeps (run_words unmap.runs)

abbrev pub unmap_line : UnmapAsk → List ℕ
unmap_line unmap = join_with_byte 32 (unmap_words unmap)

-- ---- how they are read

-- what stays mapped of a page that is given up
abbrev pub lesser : Names (Option Kind)
lesser = (codes "none", None) ∷ (codes "read", Some Read) ∷ []

abbrev pub keeps_of : List ℕ → Option (Option Kind)
keeps_of = by_name lesser

abbrev pub next_keeps : List (List ℕ) → Option (Option Kind × List (List ℕ))
next_keeps = next_of keeps_of

-- `offset bytes`
abbrev pub next_run : List (List ℕ) → Option (Run × List (List ℕ))
next_run words = do
  (offset, words) ← next_number words
  (bytes, words) ← next_of bytes_of words
  if is_block offset (length bytes) then Some (record { offset = offset; bytes = bytes }, words) else None

-- what the next two words are, and then the others
abbrev pub and_runs : Option (Run × List (List ℕ)) → Option (List Run) → Option (List Run)
and_runs next runs = do
  (run, _) ← next
  runs ← runs
  Some (run ∷ runs)

-- all words
abbrev pub runs_of : List (List ℕ) → Option (List Run)
runs_of [] = Some []
runs_of (offset ∷ []) = None
runs_of (offset ∷ bytes ∷ words) = and_runs (next_run (offset ∷ bytes ∷ words)) (runs_of words)

-- `attachment page none` or `read`, and runs
abbrev pub unmap_of : ℕ → List ℕ → List (List ℕ) → Option UnmapAsk
unmap_of site tag words = do
  (at, words) ← next_number words
  (index, words) ← next_number words
  (keeps, words) ← next_keeps words
  runs ← runs_of words
  Some (record { site = site; tag = tag; at = at; index = index; keeps = keeps; runs = runs })

-- `attachment page`, and runs
abbrev pub sync_of : ℕ → List ℕ → List (List ℕ) → Option UnmapAsk
sync_of site tag words = do
  (at, words) ← next_number words
  (index, words) ← next_number words
  runs ← runs_of words
  Some (record { site = site; tag = tag; at = at; index = index; keeps = Some Write; runs = runs })
