use Rattle.std.proofs.Common.{ap, subst, sym}
use Rattle.std.specs.List.{All}
use Rattle.shm_debug.specs.Checkpoints.{Holds}
use Rattle.shm_debug.specs.Standing.{first_events}
use Rattle.shm_debug.proofs.Holding.{all-first}
use Rattle.shm_debug.proofs.checkpoints.Checkpoints.drop_past.Goals as goal

pub returns : goal.returns
returns g c = λ s within all.
    subst (All (Holds (first_events c.args.count s))) (sym (ap (λ b. b.items) c.truncate_back.ensures)) (all-first s c.args.count c.count_within-kept.result c.args.self.now.ring.items c.count_within-kept.ensures within all)
