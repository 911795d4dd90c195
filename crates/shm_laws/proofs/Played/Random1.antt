-- The definitions compute each line.
use Rattle.std.proofs.Common.{refl}
use Rattle.shm_model.specs.Book.{awaited}
use Rattle.shm_model.specs.Site.{blank, is_attached, least_free}
use Rattle.shm_model.specs.World.{Framed}
use Rattle.shm_laws.specs.Rows.Script.{Plays}
use Rattle.shm_laws.specs.Rows.Random1

pub first_random_script : Plays (Framed 2 3 1) Random1.first_random_script
unfolding Plays blank awaited least_free is_attached
first_random_script = refl

pub second_random_script : Plays (Framed 2 3 1) Random1.second_random_script
unfolding Plays blank awaited least_free is_attached
second_random_script = refl
