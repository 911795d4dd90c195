use Rattle.std.proofs.Common.{◌≡◌, ap, arith}
use Rattle.shm_world.proofs.Joining.{passed-rises}
use Rattle.shm_world.proofs.numbered_values.ByNumber.pass_to.Goals as goal

pub invariant_of-self : goal.invariant_of-self
invariant_of-self g c =
    let same : c.self.inside.next ≡ c.args.self.now.next = ap (λ b. b.next) c.self.view_is in
    passed-rises 0 c.self.inside.next c.args.next c.self.inside.places.items c.self.invariant (omega (arith, same, c.requires))
