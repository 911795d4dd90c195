-- The greatest request number served of each of 16 sites, in the order of the sites.
use Rattle.std.specs.Prelude.{ℕ, List, slice_index, max, if◌then◌else◌, ◌==◌}

-- of one site; 0 where nothing was served, and for a site that isn't there
abbrev pub served_of : List ℕ → ℕ → ℕ
served_of numbers site = slice_index numbers site

-- after one more number of a site was taken as served
abbrev pub taken : (ℕ → ℕ) → ℕ → ℕ → ℕ → ℕ
taken served site number j = if site == j then max (served site) number else served j
