-- Values under numbers that rise.
use Rattle.std.specs.Prelude.{◌≡◌, ℕ, ◌+◌, ◌==◌, ◌&&◌, Bool, List, [], ◌∷◌, Option, Some, None, if◌then◌else◌, nat_le, nat_lt, slice_get}
use Rattle.std.specs.Option.{option_map}
use Rattle.shm_world.specs.declared.numbered_place.Place.{Place}

-- the places, the number that the next value takes, and how many more values fit without more memory
pub record Numbered (V : Type 0) : Type 0 where
  pub places : List (Place V)
  pub next : ℕ
  pub spare : ℕ

-- the value of this number, unless it was taken out
abbrev pub value_of : {V : Type 0} → ℕ → List (Place V) → Option V
value_of k [] = None
value_of k (p ∷ ps) = if p.number == k then p.value else value_of k ps

-- the numbers rise, from the least on, and are below the next one
abbrev pub rises : {V : Type 0} → ℕ → List (Place V) → ℕ → Bool
rises least [] next = nat_le least next
rises least (p ∷ ps) next = nat_le least p.number && rises (p.number + 1) ps next

-- how many places stand before that of this number
abbrev pub place_for : {V : Type 0} → ℕ → List (Place V) → ℕ
place_for k [] = 0
place_for k (p ∷ ps) = if nat_lt p.number k then place_for k ps + 1 else 0

-- the place of this number
abbrev pub StandsAt : {V : Type 0} → ℕ → ℕ → List (Place V) → Type 0
StandsAt k at ps = option_map (λ p. p.number) (slice_get ps at) ≡ Some k
