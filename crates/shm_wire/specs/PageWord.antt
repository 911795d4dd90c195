-- A page's bytes as one word.
use Rattle.std.specs.Prelude.{◌≡◌, ℕ, ◌==◌, if◌then◌else◌, List, length, Option, None, Some}
use Rattle.base64.specs.GeneralPurpose.{IsBytes}
use Rattle.shm_place.specs.Limits.{page_bytes}
use Rattle.shm_lines.specs.Words.{◌>>=◌}
use Rattle.shm_wire.specs.BytesWord.{bytes_of}

abbrev pub IsPage : List ℕ → Type 0
IsPage bytes = (length bytes ≡ page_bytes) × IsBytes bytes

abbrev pub page_bytes_of : List ℕ → Option (List ℕ)
page_bytes_of word = do
  bytes ← bytes_of word
  if length bytes == page_bytes then Some bytes else None
