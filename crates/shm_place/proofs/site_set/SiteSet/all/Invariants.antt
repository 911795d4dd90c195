use Rattle.std.proofs.Common.{◌≡◌, ℕ, nat_lt, length}
use Rattle.shm_place.specs.SiteSet.{has}
use Rattle.shm_place.proofs.site_set.SiteSet.all.Given as goal

abbrev pub invariant-loop-index : goal.invariant-loop-index
invariant-loop-index l = record { whole : length l.members ≡ 16; below : (site : ℕ) → has l.members site ≡ nat_lt site l.index }
