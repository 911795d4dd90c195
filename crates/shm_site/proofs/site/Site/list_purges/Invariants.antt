use Rattle.std.proofs.Common.{◌≡◌, ◌++◌, map}
use Rattle.shm_model.specs.SegmentCalls.{purge_envelope}
use Rattle.shm_place.specs.SiteSet.{has}
use Rattle.shm_parts.specs.Message.{envelope_of}
use Rattle.shm_site.proofs.Ticks.{passing}
use Rattle.shm_site.proofs.site.Site.list_purges.Given as goal

abbrev pub invariant-sites : goal.invariant-sites
invariant-sites g l = (map envelope_of l.list.items) ≡ (map envelope_of l.fn.list.items) ++ map (purge_envelope l.self.me l.id) (passing (has l.missing) l.site)
