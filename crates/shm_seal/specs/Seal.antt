-- Sealed lines: the line, ` @NAME` and, under a key, a blank and the digest of what stands before that blank, in hexadecimal.
use Rattle.std.specs.Prelude.{ℕ, ◌-◌, List, [], ◌∷◌, ◌++◌, codes, drop, if◌then◌else◌, length, nat_lt, take, Option, None, Some, Result, Ok, Err, option_and_then}
use Rattle.std.specs.Option.{option_map_or}
use Rattle.std.specs.Str.{bytes_eq}
use Rattle.hex.specs.Hex.{encode_lower}
use Rattle.shm_seal.specs.Hmac.{hmac}
use Rattle.shm_seal.specs.declared.open_line_error.Unsealed.{Unsealed}
use Rattle.shm_seal.specs.declared.open_line_error.Unsealed.TheVariants.{OtherCluster, NoDigest, WrongDigest}

-- none; a cluster's name; or that and the block of a key
pub data Seal : Type 0 where
  Bare : Seal
  Named : List ℕ → Seal
  Keyed : List ℕ → List ℕ → Seal

abbrev pub cluster_of : Seal → Option (List ℕ)
cluster_of Bare = None
cluster_of (Named name) = Some name
cluster_of (Keyed name block) = Some name

abbrev pub name_tail : List ℕ → List ℕ
name_tail name = codes " @" ++ name

-- behind a text, its digest
unfoldable pub digest_text : List ℕ → List ℕ → List ℕ
digest_text block text = 32 ∷ encode_lower (hmac block text)

-- what stands behind a line
unfoldable pub tail_of : Seal → List ℕ → List ℕ
tail_of Bare line = []
tail_of (Named name) line = name_tail name
tail_of (Keyed name block) line = name_tail name ++ digest_text block (line ++ name_tail name)

unfoldable pub sealed : Seal → List ℕ → List ℕ
sealed seal line = line ++ tail_of seal line

-- ---- how it is opened

-- what stands before this end, if the line has it
abbrev pub without_end : List ℕ → List ℕ → Option (List ℕ)
without_end line end =
    if nat_lt (length line) (length end) then None
    else if bytes_eq (drop (length line - length end) line) end then Some (take (length line - length end) line)
    else None

-- what stands before the cluster's name
abbrev pub inner_of : List ℕ → List ℕ → Option (List ℕ)
inner_of name line = option_and_then (λ front. without_end front (codes " @")) (without_end line name)

unfoldable pub opened_named : List ℕ → List ℕ → Result (List ℕ) Unsealed
opened_named name line = option_map_or (λ inner. Ok inner) (inner_of name line) (Err OtherCluster)

-- without a digest
unfoldable pub undigested : List ℕ → List ℕ → Unsealed
undigested name line = option_map_or (λ inner. NoDigest) (inner_of name line) OtherCluster

-- the digest of a text is this
abbrev pub if_digest : List ℕ → List ℕ → List ℕ → List ℕ → Result (List ℕ) Unsealed
if_digest block text digest inner = if bytes_eq digest (digest_text block text) then Ok inner else Err WrongDigest

-- a text and behind it what may be its digest, of a line
unfoldable pub opened_text : List ℕ → List ℕ → List ℕ → List ℕ → List ℕ → Result (List ℕ) Unsealed
opened_text name block line text digest = option_map_or (if_digest block text digest) (inner_of name text) (Err (undigested name line))

-- a digest has 65 bytes
unfoldable pub opened_keyed : List ℕ → List ℕ → List ℕ → Result (List ℕ) Unsealed
opened_keyed name block line = opened_text name block line (take (length line - 65) line) (drop (length line - 65) line)

-- the line that was sealed, or why there is none
unfoldable pub opened : Seal → List ℕ → Result (List ℕ) Unsealed
opened Bare line = Ok line
opened (Named name) line = opened_named name line
opened (Keyed name block) line = opened_keyed name block line
