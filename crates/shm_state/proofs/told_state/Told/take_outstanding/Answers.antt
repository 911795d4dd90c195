use Rattle.std.proofs.Common.{None, refl}
use Rattle.shm_state.proofs.Taken.{taken}
use Rattle.shm_state.proofs.ToldSteps.{outstanding-told, says, seen, tells}
use Rattle.shm_state.specs.Part.{Outstanding}
use Rattle.shm_state.proofs.told_state.Told.take_outstanding.Goals as goal

pub returns-clause-told : goal.returns-clause-told
returns-clause-told g c = λ said h.
    let old = c.args.self.now in
    taken (Outstanding c.args.number c.args.op) said _ None _ refl (tells _ _ (outstanding-told (seen old) said (says old said h) c.args.number c.args.op))
