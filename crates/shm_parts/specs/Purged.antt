-- The segments that a site has purged.
use Rattle.std.specs.Prelude.{ℕ, Bool, ◌==◌, is_some}
use Rattle.std.specs.Map.{lookup}
use Rattle.shm_parts.specs.declared.purged_segments.Purged.{Purged}

abbrev pub purged_of : {A : Type 0} → Purged A → ℕ → Bool
purged_of purged id = is_some (lookup (λ key. id == key) purged.map.entries)
