use Rattle.shm_world.proofs.world.World.sent.Goals as goal

pub returns : goal.returns
returns g c = λ w stands. c.sent.ensures.count w.sent w.gone stands.carries
