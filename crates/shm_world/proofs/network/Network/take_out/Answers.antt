use Rattle.std.proofs.Common.{ap, ◌∙◌}
use Rattle.shm_world.specs.Network.{envelope_at}
use Rattle.shm_world.proofs.NetworkLemmas.{envelope_if, lost-one, none_then, unlost}
use Rattle.shm_world.proofs.network.Network.take_out.Goals as goal

pub returns-clause-after : goal.returns-clause-after
returns-clause-after g c = λ sent gone had.
    lost-one c.args.self.now _ sent gone c.args.number c.take.ensures.next (λ k. ap envelope_at (c.take.ensures.after k) ∙ envelope_if _ _ _) had

pub returns-clause-missing : goal.returns-clause-missing
returns-clause-missing g c = none_then c.take.result
    (λ empty sent gone had.
    unlost c.args.self.now _ sent gone c.args.number (ap envelope_at empty) c.take.ensures.next (λ k. ap envelope_at (c.take.ensures.after k) ∙ envelope_if _ _ _) had)
    c.take.ensures.none
