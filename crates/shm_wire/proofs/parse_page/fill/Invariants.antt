use Rattle.std.proofs.Common.{◌≡◌, length, take}
use Rattle.shm_place.specs.Limits.{page_bytes}
use Rattle.shm_wire.proofs.parse_page.fill.Given as goal

abbrev pub invariant-bytes : goal.invariant-bytes
invariant-bytes g l = (l.page.seen ≡ l.fn.page.seen) × (length l.page.bytes ≡ page_bytes) × (take l.at l.page.bytes ≡ take l.at l.bytes)
