-- Bytes as one word: their base64, in one spelling.
use Rattle.std.specs.Prelude.{ℕ, ◌&&◌, Bool, if◌then◌else◌, List, nat_lt, Option, None, Some}
use Rattle.std.specs.List.{list_all}
use Rattle.std.specs.Str.{bytes_eq}
use Rattle.std.specs.declared.result.Result.{Result}
use Rattle.std.specs.declared.result.Result.TheVariants.{Ok, Err}
use Rattle.base64.specs.declared.decode.DecodeError.{DecodeError}
use Rattle.base64.specs.Engines.{standard}
use Rattle.base64.specs.GeneralPurpose.{decode_of, encode_of}

abbrev pub bytes_word : List ℕ → List ℕ
bytes_word bytes = encode_of standard bytes

-- these are bytes, and the word is how they are spelled
abbrev pub spells : List ℕ → List ℕ → Bool
spells word bytes = bytes_eq word (bytes_word bytes) && list_all (λ byte. nat_lt byte 256) bytes

abbrev pub decoded : List ℕ → Result (List ℕ) DecodeError → Option (List ℕ)
decoded word (Ok bytes) = if spells word bytes then Some bytes else None
decoded word (Err error) = None

abbrev pub bytes_of : List ℕ → Option (List ℕ)
bytes_of word = decoded word (decode_of standard word)
