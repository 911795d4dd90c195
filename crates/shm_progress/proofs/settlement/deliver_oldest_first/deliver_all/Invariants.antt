use Rattle.shm_model.specs.World as model
use Rattle.shm_world.specs.World.{StandsFor}
use Rattle.shm_progress.proofs.Rest.Deliveries.{Handing}
use Rattle.shm_progress.proofs.settlement.deliver_oldest_first.deliver_all.Given as goal

-- so many envelopes were handed over, and what is on its way has a number from here on
abbrev pub invariant-deliveries : goal.invariant-deliveries
invariant-deliveries g l = (w : model.World) → StandsFor l.fn.world w → Handing l.world w l.deliveries l.from
