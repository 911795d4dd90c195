-- Bytes that a caller has stored, one after another, under a tag of its own: `ask SITE TAG write ATTACHMENT OFFSET`, and their base64.
use Rattle.std.specs.Prelude.{ℕ, if◌then◌else◌, List, [], ◌∷◌, codes, length, Option, None}
use Rattle.std.specs.Fmt.{decimal}
use Rattle.std.specs.List.{join_with_byte}
use Rattle.base64.specs.GeneralPurpose.{IsBytes}
use Rattle.shm_lines.specs.Words.{◌>>=◌, next_of, next_number}
use Rattle.shm_lines.specs.Spelling.{IsNumber}
use Rattle.shm_wire.specs.Asks.{IsBlock, is_block}
use Rattle.shm_wire.specs.BytesWord.{bytes_of, bytes_word}
use Rattle.shm_wire.specs.Tag.{IsTag}
use Rattle.shm_wire.specs.Words.{ended}

-- through which attachment and from which offset on they are stored
pub record WriteAsk : Type 0 where
  pub site : ℕ
  pub tag : List ℕ
  pub at : ℕ
  pub offset : ℕ
  pub bytes : List ℕ

-- those that have a line
abbrev pub IsWrite : WriteAsk → Type 0
IsWrite write =
    IsNumber write.site × IsTag write.tag × IsNumber write.at × IsNumber write.offset × IsBlock write.offset (length write.bytes) × IsBytes write.bytes

abbrev pub write_words : WriteAsk → List (List ℕ)
write_words write =
    codes "ask" ∷ decimal write.site ∷ write.tag ∷ codes "write" ∷ decimal write.at ∷ decimal write.offset ∷ bytes_word write.bytes ∷ []

abbrev pub write_line : WriteAsk → List ℕ
write_line write = join_with_byte 32 (write_words write)

-- `attachment offset bytes`
abbrev pub stores_of : ℕ → List ℕ → List (List ℕ) → Option WriteAsk
stores_of site tag words = do
  (at, words) ← next_number words
  (offset, words) ← next_number words
  (bytes, words) ← next_of bytes_of words
  if is_block offset (length bytes) then ended (record { site = site; tag = tag; at = at; offset = offset; bytes = bytes }) words else None
