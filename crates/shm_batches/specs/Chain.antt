-- Batches of lines, each with a mark behind it: `durable NUMBER PREVIOUS DIGEST`. The number counts the batches from 1. The digest is that of all
-- that stands before it in the batch, its lines and the front of its mark, and PREVIOUS is the digest of the batch before: a chain, as in Merkle,
-- "A digital signature based on a conventional encryption function" (1987). SHA-256 is that of FIPS 180-4.
use Rattle.std.specs.Prelude.{◌≡◌, ◌≢◌, ℕ, ◌+◌, ◌-◌, ◌&&◌, ◌||◌, Bool, List, [], ◌∷◌, ◌++◌, codes, drop, if◌then◌else◌, length, replicate, take}
use Rattle.std.specs.Fmt.{decimal}
use Rattle.std.specs.Str.{bytes_eq}
use Rattle.hex.specs.Hex.{encode_lower}
use Rattle.sha2.specs.Sha256.{sha256}
use Rattle.shm_journal.specs.Found.{lines_of}

-- how many batches there are, and the digest of the last one
pub record Chain : Type 0 where
  pub number : ℕ
  pub digest : List ℕ

-- no batch yet: 32 zeros
abbrev pub unmarked : Chain
unmarked = record { number = 0; digest = replicate 32 0 }

-- what stands in the next mark before its digest
unfoldable pub mark_front : Chain → List ℕ
mark_front chain = codes "durable " ++ (decimal (chain.number + 1) ++ 32 ∷ encode_lower chain.digest)

-- the digest of the next batch, which has these lines
unfoldable pub digest_of : Chain → List ℕ → List ℕ
digest_of chain text = sha256 (text ++ mark_front chain)

-- its mark, without a line feed
unfoldable pub mark_line : Chain → List ℕ → List ℕ
mark_line chain text = mark_front chain ++ 32 ∷ encode_lower (digest_of chain text)

-- with that batch
unfoldable pub with_batch : Chain → List ℕ → Chain
with_batch chain text = record { number = chain.number + 1; digest = digest_of chain text }

unfoldable pub batch_text : Chain → List ℕ → List ℕ
batch_text chain text = text ++ (mark_line chain text ++ 10 ∷ [])

-- batches one behind the other
abbrev pub file_text : Chain → List (List ℕ) → List ℕ
file_text chain [] = []
file_text chain (text ∷ texts) = batch_text chain text ++ file_text (with_batch chain text) texts

abbrev pub chain_after : Chain → List (List ℕ) → Chain
chain_after chain [] = chain
chain_after chain (text ∷ texts) = chain_after (with_batch chain text) texts

-- two texts of one digest: nobody has found any
pub record Collision : Type 0 where
  pub one : List ℕ
  pub other : List ℕ
  pub differ : one ≢ other
  pub same : sha256 one ≡ sha256 other

-- ---- a mark alone

-- a blank, and the digest of both texts, one behind the other
unfoldable pub digest_end : List ℕ → List ℕ → List ℕ
digest_end text front = 32 ∷ encode_lower (sha256 (text ++ front))

-- a line that begins so is a mark, or none that a journal may have
abbrev pub begins_as_mark : List ℕ → Bool
begins_as_mark line = bytes_eq (codes "durable ") (take 8 line)

-- a line that begins so may be a journal's
abbrev pub begins_as_entry : List ℕ → Bool
begins_as_entry line = bytes_eq (codes "step ") (take 5 line) || bytes_eq (codes "state ") (take 6 line) || bytes_eq (codes "journal ") (take 8 line)

unfoldable pub entries_from : List ℕ → List (List ℕ) → List ℕ
entries_from text [] = text
entries_from text (line ∷ lines) = if begins_as_entry line then entries_from (text ++ (line ++ 10 ∷ [])) lines else entries_from [] lines

-- the whole lines at the end of a text that may all be a journal's
abbrev pub entries_at_end : List ℕ → List ℕ
entries_at_end text = entries_from [] (lines_of text).whole

-- the digest that ends this line is that of the entries that stand before it and of the line's front, whatever its number is and the digest before
-- it
abbrev pub is_marked : List ℕ → List ℕ → Bool
is_marked text line =
    begins_as_mark line && bytes_eq (drop (length line - 65) line) (digest_end (entries_at_end text) (take (length line - 65) line))
