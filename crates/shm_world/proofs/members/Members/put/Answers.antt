use Rattle.std.proofs.Common.{◌≡◌, ap, arith, map, slice_set, sym, ◌∙◌}
use Rattle.std.proofs.lemmas.List.{map-set}
use Rattle.shm_site.specs.Site.{site_of}
use Rattle.shm_world.proofs.Seats.{seated-put}
use Rattle.shm_world.proofs.members.Members.put.Goals as goal

pub invariant_of-self-clause-seats : goal.invariant_of-self-clause-seats
invariant_of-self-clause-seats g c =
    let is : c.at.inside.0 ≡ c.args.kept.0 = omega arith in
    seated-put c.args.self.now.count c.args.self.now.sites.items c.at.inside.0 c.args.kept.1 c.args.self.now.seats c.requires.sites (c.requires.own ∙ sym is)

pub returns-clause-sites : goal.returns-clause-sites
returns-clause-sites g c =
    let is : c.at.inside.0 ≡ c.args.kept.0 = omega arith in
    let xs = c.args.self.now.sites.items in
    map-set site_of xs c.at.inside.0 c.args.kept.1 ∙ ap (λ n. slice_set (map site_of xs) n (site_of c.args.kept.1)) is
