use Rattle.std.proofs.Common.{◌≡◌, slice_get, ap, ◌∙◌, arith}
use Rattle.shm_world.proofs.Seats.{lent, seat-at, seen-at}
use Rattle.shm_world.proofs.members.Members.get.Goals as goal

pub returns-clause-site : goal.returns-clause-site
returns-clause-site g c =
    let is : c.site.inside.0 ≡ c.args.site = omega arith in
    let found = lent c.deref.result.now c.site.inside.0 c.get.result c.get.ensures.lookup ∙ ap (λ xs. slice_get xs c.site.inside.0) c.deref.ensures.value in
    seen-at c.args.self.now.sites.items c.site.inside.0 c.args.site c.get.result is found

pub returns-clause-seat : goal.returns-clause-seat
returns-clause-seat g c =
    let is : c.site.inside.0 ≡ c.args.site = omega arith in
    let found = lent c.deref.result.now c.site.inside.0 c.get.result c.get.ensures.lookup ∙ ap (λ xs. slice_get xs c.site.inside.0) c.deref.ensures.value in
    seat-at c.args.self.now.count c.args.self.now.sites.items c.site.inside.0 c.args.site c.get.result c.args.self.now.seats is found
