use Rattle.std.proofs.Common.{◌≡◌, ◌<◌, length, map, refl, slice_index_or, ap, ◌∙◌, arith}
use Rattle.std.proofs.lemmas.Option.{slice_get_read}
use Rattle.shm_site.specs.Site.{site_of}
use Rattle.shm_world.proofs.Seats.{none-seated, seated-push, seen-next}
use Rattle.shm_world.proofs.members.Members.copy.Goals as goal

pub sites-init : goal.sites-init
sites-init g c =
    let exact = c.in_ok-sites.ensures.exact in
    record {
      room = omega (arith, c.len.ensures);
      len = c.in_ok-sites.ensures.len;
      seats = none-seated c.args.self.now.count c.in_ok-sites.sites.items c.in_ok-sites.ensures.items;
      sites = ap (map site_of) c.in_ok-sites.ensures.items;
    }

pub sites-preserved : goal.sites-preserved
sites-preserved g c =
    let all = c.args.self.now.sites.items in
    let copies = c.sites.sites.items in
    let next = c.push_reserved.new.self.items in
    let below : c.sites.site-index < length all = omega arith in
    let item = c.site-item.result in
    let read : item ≡ slice_index_or all c.sites.site-index item = c.site-item.is ∙ ap (λ xs. slice_index_or xs c.sites.site-index item) c.deref-site-items.ensures.value in
    let there = slice_get_read all (length all) c.sites.site-index item refl below read in
    let seat = c.args.self.now.seats c.sites.site-index item there in
    let same = c.in_ok-copy.ensures.seat in
    let here : c.sites.site-index ≡ length copies = omega (arith, c.sites.sites.ok.0) in
    record {
      room = omega arith;
      len = omega arith;
      seats = seated-push c.args.self.now.count copies next c.in_ok-copy.copy c.sites.invariant.seats c.push_reserved.ensures.items (same.0 ∙ seat.0) (same.1 ∙ seat.1 ∙ here);
      sites = seen-next copies next all c.in_ok-copy.copy item c.sites.site-index c.sites.invariant.sites c.push_reserved.ensures.items there c.in_ok-copy.ensures.site;
    }

pub invariant_of-result-clause-whole : goal.invariant_of-result-clause-whole
invariant_of-result-clause-whole g c =
    let h : length c.sites.sites.items ≡ c.args.self.now.count = omega (arith, c.sites.sites.ok.0) in
    h

pub invariant_of-result-clause-seats : goal.invariant_of-result-clause-seats
invariant_of-result-clause-seats g c = c.sites.invariant.seats

pub push_reserved-requires : goal.push_reserved-requires
push_reserved-requires g c =
    let below : c.sites.site-index < length c.args.self.now.sites.items = omega arith in
    omega (arith, below, c.sites.invariant.room, c.sites.invariant.len)
