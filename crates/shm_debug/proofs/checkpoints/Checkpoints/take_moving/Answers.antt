use Rattle.std.proofs.Common.{◌-◌, ap, length, subst, sym}
use Rattle.std.proofs.lemmas.List.Elements.{All-take}
use Rattle.std.specs.List.{All}
use Rattle.shm_debug.specs.Checkpoints.{Holds}
use Rattle.shm_debug.proofs.Holding.{holds-last}
use Rattle.shm_debug.proofs.checkpoints.Checkpoints.take_moving.Goals as goal

pub returns-clause-taken : goal.returns-clause-taken
returns-clause-taken g c = λ s all. holds-last s c.args.self.now.ring.items c.pop_back.result c.pop_back.ensures.value all

pub returns-clause-left : goal.returns-clause-left
returns-clause-left g c = λ s all.
    let items = c.args.self.now.ring.items in
    subst (All (Holds s)) (sym (ap (λ b. b.items) c.pop_back.ensures.items)) (All-take (Holds s) (length items - 1) items all)
