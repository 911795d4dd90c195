-- The name of a cluster.
use Rattle.std.specs.Prelude.{◌≡◌, ℕ, ◌&&◌, Bool, true, if◌then◌else◌, List, length, nat_lt, Option, None, Some}
use Rattle.std.specs.Char.{is_ascii_graphic}
use Rattle.std.specs.List.{list_all}

-- 1 to 32 bytes of printable ASCII without the blank
abbrev pub is_name : List ℕ → Bool
is_name word = nat_lt 0 (length word) && nat_lt (length word) 33 && list_all is_ascii_graphic word

abbrev pub IsName : List ℕ → Type 0
IsName word = is_name word ≡ true

abbrev pub name_if_one : List ℕ → Option (List ℕ)
name_if_one word = if is_name word then Some word else None
