use Rattle.std.proofs.Common.{◌-◌, length, map}
use Rattle.shm_site.specs.Site.{site_of}
use Rattle.shm_parts.specs.Message.{envelope_of}
use Rattle.shm_site.proofs.Ticks.{PurgesSent, passed}
use Rattle.shm_site.proofs.site.Site.purge_again.Given as goal

abbrev pub invariant-segments : goal.invariant-segments
invariant-segments g l = PurgesSent l.self.home.table.home l.self.sites l.self.me (site_of l.self) (map envelope_of l.fn.list.items) (map envelope_of l.list.items) l.last

abbrev pub decreases-segments : goal.decreases-segments
decreases-segments g l = length l.self.home.table.segments - passed l.self.sites l.last
