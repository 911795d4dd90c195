-- A set of sites as one word: of each of 16 sites, in their order, `1` where the site is in the set, and `0` where it isn't.
use Rattle.std.specs.Prelude.{◌≡◌, ℕ, ◌==◌, ◌&&◌, ◌||◌, Bool, true, false, if◌then◌else◌, List, codes, length, map, Option, None, Some}
use Rattle.std.specs.List.{flat_map, list_all}

abbrev pub IsSet : List Bool → Type 0
IsSet members = length members ≡ 16

abbrev pub member_digit : Bool → List ℕ
member_digit true = codes "1"
member_digit false = codes "0"

abbrev pub set_word : List Bool → List ℕ
set_word members = flat_map member_digit members

-- ---- how it is read

abbrev pub is_one : ℕ → Bool
is_one byte = byte == 49

abbrev pub is_zero_or_one : ℕ → Bool
is_zero_or_one byte = (byte == 48) || (byte == 49)

abbrev pub is_set : List ℕ → Bool
is_set word = (length word == 16) && list_all is_zero_or_one word

abbrev pub set_of : List ℕ → Option (List Bool)
set_of word = if is_set word then Some (map is_one word) else None
