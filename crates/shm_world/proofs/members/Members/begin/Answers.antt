use Rattle.std.proofs.Common.{◌≡◌, length, map, sym, ap, ◌∙◌, arith}
use Rattle.std.proofs.lemmas.List.FromFn.{map-range_with_len_more}
use Rattle.std.specs.List.{range_with_len}
use Rattle.shm_model.specs.Opening.{opening_of}
use Rattle.shm_model.specs.World.{opened_site}
use Rattle.shm_site.specs.Site.{site_of}
use Rattle.shm_world.proofs.Seats.{none-seated, seated-push, seen-push}
use Rattle.shm_world.proofs.members.Members.begin.Goals as goal

pub sites-init : goal.sites-init
sites-init g c =
    let exact = c.in_ok-sites.ensures.exact in
    let value = c.count.ensures.value in
    record {
      room = omega arith;
      len = c.in_ok-sites.ensures.len;
      seats = none-seated c.args.opening.sites c.in_ok-sites.sites.items c.in_ok-sites.ensures.items;
      sites = ap (map site_of) c.in_ok-sites.ensures.items;
    }

pub sites-preserved : goal.sites-preserved
sites-preserved g c =
    let sites = c.sites.sites.items in
    let next = c.push_reserved.new.self.items in
    let seat = c.in_ok-site.ensures.seat in
    let here : c.sites.site ≡ length sites = omega (arith, c.sites.sites.ok.0) in
    let f = opened_site (opening_of c.args.opening) in
    record {
      room = omega arith;
      len = omega arith;
      seats = seated-push c.args.opening.sites sites next c.in_ok-site.site c.sites.invariant.seats c.push_reserved.ensures.items seat.0 (seat.1 ∙ here);
      sites = seen-push sites next c.in_ok-site.site (map f (range_with_len 0 c.sites.site)) (f c.sites.site) c.sites.invariant.sites c.push_reserved.ensures.items c.in_ok-site.ensures.site
          ∙ sym (map-range_with_len_more f 0 c.sites.site c.sites.site (omega arith));
    }

pub invariant_of-result-clause-whole : goal.invariant_of-result-clause-whole
invariant_of-result-clause-whole g c =
    let h : length c.sites.sites.items ≡ c.args.opening.sites = omega (arith, c.sites.sites.ok.0) in
    h

pub invariant_of-result-clause-seats : goal.invariant_of-result-clause-seats
invariant_of-result-clause-seats g c = c.sites.invariant.seats
