use Rattle.std.proofs.Common.{◌∙◌, refl, sym}
use Rattle.shm_world.specs.Network.{on_way}
use Rattle.shm_world.proofs.Envelopes.{lost, not_lost}
use Rattle.shm_world.proofs.Steps.{still_stands}
use Rattle.shm_world.proofs.world.World.lose.Goals as goal

pub returns-then-lose : goal.returns-then-lose
returns-then-lose g c = λ w stands.
    let old = c.args.self.now in
    lost old _ w c.args.number (on_way old.network c.args.number) (stands.carries.live c.args.number) (sym c.lose.ensures.was ∙ c.if-lose.true) stands refl refl (c.lose.ensures.after w.sent w.gone stands.carries)

pub returns-else-lose : goal.returns-else-lose
returns-else-lose g c = λ w stands.
    let old = c.args.self.now in
    not_lost _ w c.args.number (on_way old.network c.args.number) (stands.carries.live c.args.number) (sym c.lose.ensures.was ∙ c.if-lose.false)
    (still_stands old _ w stands refl refl (c.lose.ensures.missing c.if-lose.false w.sent w.gone stands.carries))
