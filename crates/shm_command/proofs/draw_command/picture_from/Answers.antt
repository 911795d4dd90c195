use Rattle.std.proofs.Common.{refl}
use Rattle.shm_command.proofs.draw_command.picture_from.Goals as goal

pub returns-in-Some-clause-drawn : goal.returns-in-Some-clause-drawn
returns-in-Some-clause-drawn g c = rw c.in-Some.is (refl, c.picture_file.ensures.drawn)

pub returns-in-None-clause-drawn : goal.returns-in-None-clause-drawn
returns-in-None-clause-drawn g c = rw c.in-None.is c.picture.ensures.drawn
