use Rattle.std.proofs.Common.{refl}
use Rattle.shm_world.proofs.Steps.{still_stands}
use Rattle.shm_world.proofs.world.World.make_room.Goals as goal

pub returns-clause-same : goal.returns-clause-same
returns-clause-same g c = λ w stands. still_stands c.args.self.now _ w stands refl refl (c.make_room.ensures.same w.sent w.gone stands.carries)
