-- The seal that the words of a site ask for.
use Rattle.std.specs.Prelude.{⊤, ◌≡◌, ◌<◌, ◌⊎◌, ℕ, ◌-◌, Bool, List, [], ◌∷◌, drop, if◌then◌else◌, length, take, is_none, is_some, None, Option, Some, option_map, false, true}
use Rattle.std.specs.Str.{bytes_eq}
use Rattle.shm_journal.specs.Acts.{Around, Did}
use Rattle.shm_seal.specs.Hmac.{block_of}
use Rattle.shm_seal.specs.Name.{is_name}
use Rattle.shm_seal.specs.Seal.{Seal, Bare, Named, Keyed, cluster_of}
use Rattle.shm_command.specs.Begun.{header_at}
use Rattle.shm_command.specs.Served.{IsSite}
use Rattle.shm_command.specs.declared.seal_error.SealFault.{SealFault}
use Rattle.shm_command.specs.declared.seal_error.SealFault.TheVariants as fault
use Rattle.shm_command.specs.declared.args.seal_words.SealWords.{SealWords}

-- without a line feed at the end
abbrev pub unfed : List ℕ → List ℕ
unfed bytes = if bytes_eq (drop (length bytes - 1) bytes) (10 ∷ []) then take (length bytes - 1) bytes else bytes

-- the block of a key that lies in a file, and has some bytes
abbrev pub IsKey : List ℕ → Type 0
IsKey block = (file : List ℕ) × (0 < length (unfed file)) × (block ≡ block_of (unfed file))

-- with the name that was given, and a key exactly where a file was named
abbrev pub IsSealOf : SealWords → Seal → Type 0
IsSealOf words Bare = (is_none words.cluster ≡ true) × (is_none words.key ≡ true)
IsSealOf words (Named name) = (option_map (λ n. n.now) words.cluster ≡ Some name) × (is_none words.key ≡ true)
IsSealOf words (Keyed name block) = (option_map (λ n. n.now) words.cluster ≡ Some name) × (is_some words.key ≡ true) × IsKey block

-- of a key that was to be read: it has no bytes, or couldn't be read
abbrev pub IsKeyFault : SealFault → Type 0
IsKeyFault fault.BadName = ⊥
IsKeyFault fault.NoName = ⊥
IsKeyFault fault.NoKey = ⊤
IsKeyFault (fault.Unread why) = ⊤

-- such words as have this fault: the name that was given isn't one, or none was given for a key; what a key's file holds no words say
abbrev pub IsUnsealed : SealWords → SealFault → Type 0
IsUnsealed words fault.BadName = option_map (λ n. is_name n.now) words.cluster ≡ Some false
IsUnsealed words fault.NoName = (is_none words.cluster ≡ true) × (is_some words.key ≡ true)
IsUnsealed words fault.NoKey = (is_some words.cluster ≡ true) × (is_some words.key ≡ true)
IsUnsealed words (fault.Unread why) = (is_some words.cluster ≡ true) × (is_some words.key ≡ true)

-- the name isn't one, or is missing, or the key has no bytes; or the key's file couldn't be read
abbrev pub seal_status : SealFault → ℕ
seal_status fault.BadName = 1
seal_status fault.NoName = 1
seal_status fault.NoKey = 1
seal_status (fault.Unread why) = 3

-- a site under that seal ended with this status; or there is no such seal, and nothing was read and nothing told
abbrev pub IsSealedSite : SealWords → Option Bool → ℕ → ℕ → ℕ → ℕ → Around → Around → Type 0
IsSealedSite words kept sites me pages status old new =
    ((seal : Seal) × IsSealOf words seal × IsSite kept seal (header_at sites me pages (cluster_of seal)) status old new)
    ⊎ ((why : SealFault) × IsUnsealed words why × (status ≡ seal_status why) × Did old new [])
