use Rattle.std.proofs.Common.{refl}
use Rattle.shm_command.proofs.replay_command.replay_from.Goals as goal

pub returns-in-Some-clause-replayed : goal.returns-in-Some-clause-replayed
returns-in-Some-clause-replayed g c = rw c.in-Some.is (refl, c.replay_file.ensures.replayed)

pub returns-in-None-clause-replayed : goal.returns-in-None-clause-replayed
returns-in-None-clause-replayed g c = rw c.in-None.is c.replay_script.ensures.replayed
