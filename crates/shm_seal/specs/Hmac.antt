-- HMAC-SHA-256, as RFC 2104 (section 2) and FIPS 198-1 (section 4) define it: with blocks of 64 bytes, the inner byte 36 and the outer byte 5c,
-- both hexadecimal.
use Rattle.std.specs.Prelude.{ℕ, ◌-◌, List, ◌++◌, bit_xor, if◌then◌else◌, length, map, nat_lt, replicate}
use Rattle.sha2.specs.Sha256.{sha256}

-- these bytes, with zeros behind them up to a block
unfoldable pub key_of_block : List ℕ → List ℕ
key_of_block bytes = bytes ++ replicate (64 - length bytes) 0

-- a key, as long as a block
unfoldable pub block_of : List ℕ → List ℕ
block_of bytes = key_of_block (if nat_lt 64 (length bytes) then sha256 bytes else bytes)

-- a block, each byte of it with this one added bit by bit
unfoldable pub padded : ℕ → List ℕ → List ℕ
padded byte block = map (λ b. bit_xor b byte) block

-- the digest of a text under the key of this block
unfoldable pub hmac : List ℕ → List ℕ → List ℕ
hmac block text = sha256 (padded 92 block ++ sha256 (padded 54 block ++ text))
