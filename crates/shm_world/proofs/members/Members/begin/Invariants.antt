use Rattle.std.proofs.Common.{◌≡◌, map}
use Rattle.std.specs.List.{range_with_len}
use Rattle.std.specs.Vec.{vec_capacity, vec_len}
use Rattle.shm_model.specs.Opening.{opening_of}
use Rattle.shm_model.specs.World.{opened_site}
use Rattle.shm_site.specs.Site.{site_of}
use Rattle.shm_world.specs.Seats.{Seated}
use Rattle.shm_world.proofs.members.Members.begin.Given as goal

-- the sites up to this one have begun, and there is room for the others
abbrev pub invariant-sites : goal.invariant-sites
invariant-sites g l = record {
  room : vec_capacity l.sites ≡ l.fn.opening.sites;
  len : vec_len l.sites ≡ l.site;
  seats : Seated l.fn.opening.sites l.sites.items;
  sites : map site_of l.sites.items ≡ map (opened_site (opening_of l.fn.opening)) (range_with_len 0 l.site);
}
