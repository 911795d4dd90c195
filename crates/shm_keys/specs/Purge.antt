-- Which sites have yet to purge which destroyed segment. The segments stand by rising identifier, each once.
use Rattle.std.specs.Prelude.{◌≡◌, ℕ, ◌<◌, Bool, true, false, ◌&&◌, ◌==◌, nat_lt, List, Option, Some, None, length, slice_index_or}
use Rattle.std.specs.List.{list_any, AllPairs}
use Rattle.shm_model.specs.Basics.{at}
use Rattle.shm_place.specs.SiteSet.{has, has_none}
use Rattle.shm_keys.specs.declared.pending_purge.Purge.{Purge}

abbrev pub awaits_site : ℕ → ℕ → Purge → Bool
awaits_site id site purge = (id == purge.id) && has purge.missing site

-- whether the site has yet to purge the segment
abbrev pub missing_in : List Purge → ℕ → ℕ → Bool
missing_in purges id site = list_any (awaits_site id site) purges

abbrev pub IsRising : List Purge → Type 0
IsRising purges = AllPairs (λ p q. p.id < q.id) purges

-- a segment stands here only while sites are missing
abbrev pub AllMissing : List Purge → Type 0
AllMissing purges = (k : ℕ) (d : Purge) → k < length purges → has_none (slice_index_or purges k d).missing ≡ false

-- the test holds of each segment that stands here
abbrev pub AllPass : (ℕ → Bool) → List Purge → Type 0
AllPass test purges = (k : ℕ) (d : Purge) → k < length purges → test (slice_index_or purges k d).id ≡ true

-- at a destroyed segment all sites are missing from then on
abbrev pub missing_after : Option ℕ → ℕ → (ℕ → ℕ → Bool) → ℕ → ℕ → Bool
missing_after None sites missing = missing
missing_after (Some id) sites missing = at missing id (λ site. nat_lt site sites)

-- above the identifier given, if one is
abbrev pub is_above : Option ℕ → ℕ → Bool
is_above None id = true
is_above (Some after) id = nat_lt after id
