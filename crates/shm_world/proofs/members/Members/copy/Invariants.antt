use Rattle.std.proofs.Common.{◌≡◌, map, take}
use Rattle.std.specs.Vec.{vec_capacity, vec_len}
use Rattle.shm_site.specs.Site.{site_of}
use Rattle.shm_world.specs.Seats.{Seated}
use Rattle.shm_world.proofs.members.Members.copy.Given as goal

-- the sites up to this one are copied, and there is room for the others
abbrev pub invariant-sites : goal.invariant-sites
invariant-sites g l = record {
  room : vec_capacity l.sites ≡ vec_len l.self.sites;
  len : vec_len l.sites ≡ l.site-index;
  seats : Seated l.self.count l.sites.items;
  sites : map site_of l.sites.items ≡ map site_of (take l.site-index l.self.sites.items);
}
