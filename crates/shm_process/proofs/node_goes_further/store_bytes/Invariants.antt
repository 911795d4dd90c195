use Rattle.std.proofs.Common.{◌≡◌, ◌+◌, drop}
use Rattle.shm_site.specs.Site.{SameSeat, site_of}
use Rattle.shm_process.specs.Further.{stored_from}
use Rattle.shm_process.proofs.node_goes_further.store_bytes.Given as goal

-- the bytes to come lead to where all led
abbrev pub invariant-bytes : goal.invariant-bytes
invariant-bytes g l = record {
  stored : stored_from l.fn.site.sites l.fn.site.me l.at (l.offset + l.place) (drop l.place l.bytes) (site_of l.site)
      ≡ stored_from l.fn.site.sites l.fn.site.me l.at l.offset l.bytes (site_of l.fn.site);
  seat : SameSeat l.fn.site l.site;
}
