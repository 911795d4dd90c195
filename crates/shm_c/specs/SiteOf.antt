-- A single site as one of a world's.
use Rattle.std.specs.Prelude.{◌≡◌, Some, slice_get}
use Rattle.shm_model.specs.World.{World}
use Rattle.shm_c.specs.Seat.{Seat}

-- the world has this site, at its number
abbrev pub IsSiteOf : World → Seat → Type 0
IsSiteOf w seat = (seat.sites ≡ w.count) × (slice_get w.sites seat.me ≡ Some seat.site)
