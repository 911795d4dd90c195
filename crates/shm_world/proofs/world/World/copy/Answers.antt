use Rattle.shm_world.proofs.Steps.{still_stands}
use Rattle.shm_world.proofs.world.World.copy.Goals as goal

pub returns : goal.returns
returns g c = λ w stands.
    still_stands c.args.self.now _ w stands c.in_ok-members.ensures.count c.in_ok-members.ensures.sites (c.in_ok-network.ensures w.sent w.gone stands.carries)
