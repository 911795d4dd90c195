-- The definitions compute each line.
use Rattle.std.proofs.Common.{refl}
use Rattle.shm_model.specs.Book.{awaited}
use Rattle.shm_model.specs.Site.{blank, is_attached, least_free}
use Rattle.shm_model.specs.World.{Preset, Framed}
use Rattle.shm_laws.specs.Rows.Script.{Plays}
use Rattle.shm_laws.specs.Rows.Random4

pub seventh_random_script : Plays (Preset 3 3) Random4.seventh_random_script
unfolding Plays blank awaited least_free is_attached
seventh_random_script = refl

pub eighth_random_script : Plays (Framed 4 2 2) Random4.eighth_random_script
unfolding Plays blank awaited least_free is_attached
eighth_random_script = refl
