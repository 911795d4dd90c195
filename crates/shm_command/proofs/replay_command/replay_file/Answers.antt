use Rattle.std.proofs.Common.{inl, inr, refl}
use Rattle.shm_command.proofs.replay_command.replay_file.Goals as goal

pub returns-in-Ok-clause-replayed : goal.returns-in-Ok-clause-replayed
returns-in-Ok-clause-replayed g c = inl (c.as_slice.result.now, c.replay_whole.ensures.replayed)

pub returns-in-Err-clause-replayed : goal.returns-in-Err-clause-replayed
returns-in-Err-clause-replayed g c = inr (c.script_file_fault.ensures, refl)
