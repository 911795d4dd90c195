use Rattle.std.proofs.Common.{◌+◌, ◌≤◌, length, map}
use Rattle.shm_place.specs.SiteSet.{has}
use Rattle.shm_manager.specs.Orders.{members}
use Rattle.shm_manager.proofs.Members.{sites_below}
use Rattle.shm_model.specs.Book.{ClearTo}
use Rattle.shm_model.specs.Transfer.{order_envelope}
use Rattle.shm_site.specs.Site.{Told}
use Rattle.shm_site.proofs.send_page_orders.send_clears.Given as goal

abbrev pub invariant-sites : goal.invariant-sites
invariant-sites g l = record {
  sent : Told g.O.Outbox.posted l.initial.outbox l.outbox (map (λ site. order_envelope l.me l.page l.number (ClearTo site)) (sites_below (has l.sites) l.site));
  room : length (members l.sites) ≤ g.O.Outbox.room l.outbox + length (sites_below (has l.sites) l.site);
}
