-- Which segment a home's table can have next, and which pending purge, when it is made anew from what was read of it.
use Rattle.std.specs.Prelude.{ℕ, Bool, not, ◌+◌, ◌*◌, ◌==◌, ◌&&◌, ◌||◌, nat_lt, List, is_none, length}
use Rattle.std.specs.List.{list_all}
use Rattle.shm_place.specs.Limits.{segments_of_a_home}
use Rattle.shm_place.specs.SiteSet.{has_none}
use Rattle.shm_model.specs.Permission.{Segment}
use Rattle.shm_model.specs.Kernel.{with_key}
use Rattle.shm_keys.specs.Table.{is_purged_from}
use Rattle.shm_keys.specs.declared.pending_purge.Purge.{Purge}

-- no segment has the key, or it is the key of none
abbrev pub is_free_key : ℕ → List Segment → Bool
is_free_key key segments = (key == 0) || is_none (with_key key segments)

-- the home can have made this segment after those: there is room for it, it has the next identifier, and its key is free
abbrev pub is_next_segment : ℕ → ℕ → List Segment → Segment → Bool
is_next_segment home sites segments g =
    nat_lt (length segments) segments_of_a_home && (g.id == length segments * sites + home) && is_free_key g.key segments

-- the identifier is above all that stand there
abbrev pub is_above_all : List Purge → ℕ → Bool
is_above_all purges id = list_all (λ p. nat_lt p.id id) purges

-- this purge can stand behind those: its segment was destroyed, has a greater identifier, and sites are missing of it
abbrev pub is_next_purge : List Segment → List Purge → Purge → Bool
is_next_purge segments purges purge =
    not (has_none purge.missing) && is_purged_from segments purge.id && is_above_all purges purge.id

-- a purge, from its segment and the sites that are missing
abbrev pub purge_from : ℕ × List Bool → Purge
purge_from read = record { id = read.0; missing = read.1 }
