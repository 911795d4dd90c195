use Rattle.std.proofs.Common.{ap, subst, sym}
use Rattle.std.specs.List.{All}
use Rattle.shm_debug.specs.Checkpoints.{Holds}
use Rattle.shm_debug.proofs.Holding.{all-kept}
use Rattle.shm_debug.proofs.checkpoints.Checkpoints.keep.Goals as goal

pub returns : goal.returns
returns g c = λ s all holds.
    subst (All (Holds s)) (sym (ap (λ b. b.items) c.push_back.ensures.items)) (all-kept s c.args.self.now.ring.capacity c.args.self.now.ring.items c.args.checkpoint all holds)
