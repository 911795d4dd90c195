-- The definitions compute each line.
use Rattle.std.proofs.Common.{refl}
use Rattle.shm_model.specs.Book.{awaited}
use Rattle.shm_model.specs.Site.{blank, is_attached, least_free}
use Rattle.shm_model.specs.World.{Framed}
use Rattle.shm_laws.specs.Rows.Script.{Plays}
use Rattle.shm_laws.specs.Rows.Random3

pub fifth_random_script : Plays (Framed 2 1 1) Random3.fifth_random_script
unfolding Plays blank awaited least_free is_attached
fifth_random_script = refl

pub sixth_random_script : Plays (Framed 2 2 1) Random3.sixth_random_script
unfolding Plays blank awaited least_free is_attached
sixth_random_script = refl
