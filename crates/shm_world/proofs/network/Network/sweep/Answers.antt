use Rattle.std.proofs.Common.{ap}
use Rattle.shm_world.specs.Network.{envelope_at}
use Rattle.shm_world.proofs.NetworkLemmas.{carries-same}
use Rattle.shm_world.proofs.network.Network.sweep.Goals as goal

pub returns : goal.returns
returns g c = λ sent gone had. carries-same c.args.self.now _ sent gone c.sweep.ensures.next (λ k. ap envelope_at (c.sweep.ensures.value k)) had
