-- Homes: the site that makes a segment and keeps its record. A key's home depends on the key alone, so two sites meet there.
use Rattle.std.specs.Prelude.{ℕ, ◌%◌, ◌==◌, if◌then◌else◌}

-- key 0 (`IPC_PRIVATE` of shmget(2)) is nobody else's: its home is the caller
abbrev pub home_of_key : ℕ → ℕ → ℕ → ℕ
home_of_key sites caller key = if key == 0 then caller else key % sites

-- home h gives the identifiers h, h + sites, h + 2 * sites, ..
abbrev pub home_of_id : ℕ → ℕ → ℕ
home_of_id sites id = id % sites
