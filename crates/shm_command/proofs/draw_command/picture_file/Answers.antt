use Rattle.std.proofs.Common.{inl, inr, refl}
use Rattle.shm_command.proofs.draw_command.picture_file.Goals as goal

pub returns-in-Ok-clause-drawn : goal.returns-in-Ok-clause-drawn
returns-in-Ok-clause-drawn g c = inl (c.as_slice.result.now, c.picture_whole.ensures.drawn)

pub returns-in-Err-clause-drawn : goal.returns-in-Err-clause-drawn
returns-in-Err-clause-drawn g c = inr (c.script_file_fault.ensures, refl)
