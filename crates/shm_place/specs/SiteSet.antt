-- A set of sites, as the answer for each of 16 sites in their order.
use Rattle.std.specs.Prelude.{ℕ, Bool, false, not, List, slice_index_or}
use Rattle.std.specs.List.{list_all}

-- no site above is in a set
abbrev pub has : List Bool → ℕ → Bool
has members site = slice_index_or members site false

abbrev pub has_none : List Bool → Bool
has_none members = list_all not members
