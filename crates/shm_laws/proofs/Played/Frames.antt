-- The definitions compute each line.
use Rattle.std.proofs.Common.{refl}
use Rattle.shm_model.specs.Book.{awaited}
use Rattle.shm_model.specs.Site.{blank, is_attached, least_free}
use Rattle.shm_model.specs.World.{Framed}
use Rattle.shm_laws.specs.Rows.Script.{Plays}
use Rattle.shm_laws.specs.Rows.Frames

pub frames : Plays (Framed 2 4 1) Frames.frames
unfolding Plays blank awaited least_free is_attached
frames = refl

pub copy_again : Plays (Framed 2 5 2) Frames.copy_again
unfolding Plays blank awaited least_free is_attached
copy_again = refl

pub dropped_copy : Plays (Framed 2 3 1) Frames.dropped_copy
unfolding Plays blank awaited least_free is_attached
dropped_copy = refl
