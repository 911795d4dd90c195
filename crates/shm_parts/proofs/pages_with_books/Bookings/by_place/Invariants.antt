use Rattle.std.proofs.Common.{◌≡◌, take}
use Rattle.shm_parts.specs.Places.{in_order}
use Rattle.shm_parts.proofs.pages_with_books.Bookings.by_place.Given as goal

abbrev pub invariant-places : goal.invariant-places
invariant-places g l = l.rising ≡ in_order (take l.index l.self.places.entries)
