use Rattle.std.proofs.Common.{ap, ◌∙◌}
use Rattle.shm_parts.specs.Message.{envelope_of}
use Rattle.shm_world.specs.Network.{envelope_at}
use Rattle.shm_world.proofs.NetworkLemmas.{envelope_if, found-again}
use Rattle.shm_world.proofs.network.Network.put_back.Goals as goal

pub returns : goal.returns
returns g c = λ number sent gone at had here is.
    found-again c.args.self.now _ sent gone number (envelope_of c.args.envelope) c.put_back.ensures.next
    (λ k. ap envelope_at (c.put_back.ensures.value number k at) ∙ envelope_if _ _ _) had here is
