-- The table of segments that one home keeps, and how its parts hang together.
use Rattle.std.specs.Prelude.{◌≡◌, ◌≢◌, ℕ, ◌+◌, ◌*◌, ◌<◌, ◌≤◌, Bool, false, not, List, Option, Some, length, slice_index_or, count_by}
use Rattle.shm_place.specs.Limits.{segments_of_a_home}
use Rattle.shm_model.specs.Permission.{Segment, destroyed}
use Rattle.shm_model.specs.Kernel.{with_id, is_destroyed}
use Rattle.shm_keys.specs.Purge.{AllMissing, AllPass, IsRising, missing_in}
use Rattle.shm_keys.specs.declared.pending_purge.Purge.{Purge}

-- `segments` are those that the home made, in the order of making; `missing` says which sites have yet to purge which of them
pub record Table : Type 0 where
  pub home : ℕ
  pub sites : ℕ
  pub segments : List Segment
  pub missing : List Purge

-- whether the site has yet to purge the segment
abbrev pub missing_of : Table → ℕ → ℕ → Bool
missing_of table = missing_in table.missing

-- the segment of this identifier, which isn't destroyed
pub record IsLive (segments : List Segment) (id : ℕ) (g : Segment) : Type 0 where
  pub found : with_id id segments ≡ Some g
  pub alive : destroyed g ≡ false
  pub own : g.id ≡ id

-- the identifiers follow from the places
pub record IsNumbered (home sites : ℕ) (segments : List Segment) : Type 0 where
  pub below : home < sites
  pub each : (place : ℕ) (d : Segment) → place < length segments → (slice_index_or segments place d).id ≡ place * sites + home

-- the index by key leads to the segment that has the key, and to no other
pub record IsIndexed (segments : List Segment) (places : ℕ → Option ℕ) : Type 0 where
  pub keyed : (place : ℕ) (d : Segment) → place < length segments → (slice_index_or segments place d).key ≢ 0
      → places (slice_index_or segments place d).key ≡ Some place
  pub within : (key place : ℕ) → places key ≡ Some place → place < length segments
  pub own : (key place : ℕ) (d : Segment) → places key ≡ Some place → (slice_index_or segments place d).key ≡ key

abbrev pub live_count : List Segment → ℕ
live_count segments = count_by (λ g. not (destroyed g)) segments

abbrev pub is_purged_from : List Segment → ℕ → Bool
is_purged_from segments id = is_destroyed (with_id id segments)

-- what a table keeps of its fields: the index by key, the number of live segments, the room for purges
pub record IsTable (home sites : ℕ) (segments : List Segment) (places : ℕ → Option ℕ) (live : ℕ) (purges : List Purge) (room : ℕ) : Type 0 where
  pub few : length segments ≤ segments_of_a_home
  pub numbered : IsNumbered home sites segments
  pub indexed : IsIndexed segments places
  pub counted : live ≡ live_count segments
  pub rising : IsRising purges
  pub all_missing : AllMissing purges
  pub purging : AllPass (is_purged_from segments) purges
  pub roomy : live + length purges ≤ room
