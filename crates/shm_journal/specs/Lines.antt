-- The lines of a journal: first `journal SITES ME PAGES`, and ` @NAME` where the cluster has a name; and then entries, `step CLOCK LINE`, where LINE
-- is the line that made a step, or that stands for many, which follow each other from this clock on, or `restart`. One spelling for each.
use Rattle.std.specs.Prelude.{ℕ, ◌==◌, List, [], ◌∷◌, codes, IfSome, Option, Some, None, if◌then◌else◌, option_map}
use Rattle.std.specs.Fmt.{decimal}
use Rattle.std.specs.List.{join_with_byte}
use Rattle.std.specs.Str.{bytes_eq}
use Rattle.shm_lines.specs.Spelling.{IsNumber}
use Rattle.shm_lines.specs.Words.{◌>>=◌, is_end, next_number, next_of, next_word, words_of, wide_of}
use Rattle.shm_wire.specs.Words.{by_verb, nothing}
use Rattle.shm_wire.specs.Line.{Line, read_line}
use Rattle.shm_process.specs.Cause.{Cause, OfLine, OfRestart}
use Rattle.shm_process.specs.Recorded.{Entry}
use Rattle.shm_seal.specs.Name.{IsName, name_if_one}

-- how many sites there are, which one's journal it is, how many pages segment 0 began with, and the cluster's name, if it has one
pub record Header : Type 0 where
  pub sites : ℕ
  pub me : ℕ
  pub pages : ℕ
  pub cluster : Option (List ℕ)

abbrev pub IsHeader : Header → Type 0
IsHeader header = IsNumber header.sites × IsNumber header.me × IsNumber header.pages × IfSome header.cluster IsName

abbrev pub cluster_words : Option (List ℕ) → List (List ℕ)
cluster_words None = []
cluster_words (Some name) = (64 ∷ name) ∷ []

abbrev pub header_line : Header → List ℕ
header_line header =
    join_with_byte 32 (codes "journal" ∷ decimal header.sites ∷ decimal header.me ∷ decimal header.pages ∷ cluster_words header.cluster)

-- ---- how they are read

-- a name behind an at sign
abbrev pub cluster_named : List ℕ → Option (List ℕ)
cluster_named [] = None
cluster_named (byte ∷ word) = if byte == 64 then name_if_one word else None

-- one such word or none, and no more
abbrev pub cluster_after : List (List ℕ) → Option (Option (List ℕ))
cluster_after [] = Some None
cluster_after (word ∷ words) = if is_end words then option_map Some (cluster_named word) else None

-- `sites me pages`, and the cluster's name
abbrev pub header_after : List (List ℕ) → Option Header
header_after words = do
  (sites, words) ← next_number words
  (me, words) ← next_number words
  (pages, words) ← next_number words
  cluster ← cluster_after words
  Some (record { sites = sites; me = me; pages = pages; cluster = cluster })

abbrev pub read_header : List ℕ → Option Header
read_header line = do
  (verb, words) ← next_word (words_of line)
  by_verb ((codes "journal", header_after) ∷ []) nothing verb words

-- an entry as it is written: its clock, and the text of what made its steps
pub record Written : Type 0 where
  pub clock : ℕ
  pub text : List ℕ

-- `clock text`
abbrev pub written_after : List (List ℕ) → Option Written
written_after words = do
  (clock, words) ← next_of wide_of words
  if is_end words then None else Some (record { clock = clock; text = join_with_byte 32 words })

abbrev pub read_written : List ℕ → Option Written
read_written line = do
  (verb, words) ← next_word (words_of line)
  by_verb ((codes "step", written_after) ∷ []) nothing verb words

abbrev pub or_restart : List ℕ → Option Line → Option Cause
or_restart text (Some line) = Some (OfLine line)
or_restart text None = if bytes_eq text (codes "restart") then Some OfRestart else None

abbrev pub read_cause : List ℕ → Option Cause
read_cause text = or_restart text (read_line text)

abbrev pub read_entry : List ℕ → Option Entry
read_entry line = do
  written ← read_written line
  cause ← read_cause written.text
  Some (record { clock = written.clock; cause = cause })
