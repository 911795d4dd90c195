-- Offsets in a segment. Its memory is its size rounded up to whole pages, and every offset below that is valid (shmget(2)).
use Rattle.std.specs.Prelude.{ℕ, ◌+◌, ◌-◌, ◌*◌, ◌/◌, ◌%◌}
use Rattle.shm_place.specs.Limits.{page_bytes}

abbrev pub index_of : ℕ → ℕ
index_of offset = offset / page_bytes

abbrev pub within_of : ℕ → ℕ
within_of offset = offset % page_bytes

abbrev pub rounded : ℕ → ℕ
rounded size = (size + (page_bytes - 1)) / page_bytes * page_bytes
