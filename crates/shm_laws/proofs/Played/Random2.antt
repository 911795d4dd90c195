-- The definitions compute each line.
use Rattle.std.proofs.Common.{refl}
use Rattle.shm_model.specs.Book.{awaited}
use Rattle.shm_model.specs.Site.{blank, is_attached, least_free}
use Rattle.shm_model.specs.World.{Preset, Framed}
use Rattle.shm_laws.specs.Rows.Script.{Plays}
use Rattle.shm_laws.specs.Rows.Random2

pub third_random_script : Plays (Framed 4 1 1) Random2.third_random_script
unfolding Plays blank awaited least_free is_attached
third_random_script = refl

pub fourth_random_script : Plays (Preset 2 1) Random2.fourth_random_script
unfolding Plays blank awaited least_free is_attached
fourth_random_script = refl
