-- The tag under which a caller asks.
use Rattle.std.specs.Prelude.{◌≡◌, ℕ, ◌&&◌, Bool, true, if◌then◌else◌, List, length, nat_lt, Option, None, Some}
use Rattle.std.specs.Char.{is_ascii_graphic}
use Rattle.std.specs.List.{list_all}

-- 1 to 32 bytes of printable ASCII without the blank
abbrev pub is_tag : List ℕ → Bool
is_tag word = nat_lt 0 (length word) && nat_lt (length word) 33 && list_all is_ascii_graphic word

abbrev pub IsTag : List ℕ → Type 0
IsTag word = is_tag word ≡ true

abbrev pub tag_of : List ℕ → Option (List ℕ)
tag_of word = if is_tag word then Some word else None
