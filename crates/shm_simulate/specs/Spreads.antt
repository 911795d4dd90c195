-- How a number is spread over runs.
use Rattle.std.specs.Prelude.{◌≡◌, ℕ, ◌+◌, ◌-◌, ◌<◌, ◌==◌, List, [], ◌∷◌, ◌++◌, Option, Some, None, count_by, if◌then◌else◌, length, nat_lt, slice_get, slice_index}
use Rattle.shm_simulate.specs.declared.measure.Measure.{Measure}
use Rattle.shm_simulate.specs.declared.spread.Spread.{Spread}

-- at each value the number of runs that have it; these are the values of the runs
abbrev pub IsSpread : List ℕ → List ℕ → Type 0
IsSpread counts values = (value : ℕ) → slice_index counts value ≡ count_by (λ x. x == value) values

-- the value of the run of this rank, the runs in the order of their values; the counts stand from this value on
abbrev pub ranked : List ℕ → ℕ → ℕ → Option ℕ
ranked [] rank value = None
ranked (count ∷ counts) rank value = if nat_lt rank count then Some value else ranked counts (rank - count) (value + 1)

-- each spread is that of its measure's values
abbrev pub AreSpreads : (Measure → List ℕ) → List Spread → Type 0
AreSpreads values spreads = (place : ℕ) (spread : Spread) → slice_get spreads place ≡ Some spread → IsSpread spread.counts.items (values spread.measure)

-- at this place stands the same measure's spread, with this value more
pub record AddsAt (place : ℕ) (spreads : List Spread) (old : Spread) (value : ℕ) : Type 0 where
  pub new : Spread
  pub there : slice_get spreads place ≡ Some new
  pub measure : new.measure ≡ old.measure
  pub more : (values : List ℕ) → IsSpread old.counts.items values → length values < 4294967295 → IsSpread new.counts.items (values ++ value ∷ [])
