-- The definitions compute each line.
use Rattle.std.proofs.Common.{refl}
use Rattle.shm_model.specs.Book.{awaited}
use Rattle.shm_model.specs.Site.{blank, is_attached, least_free}
use Rattle.shm_model.specs.World.{New, Framed}
use Rattle.shm_laws.specs.Rows.Script.{Plays}
use Rattle.shm_laws.specs.Rows.Random5

pub ninth_random_script : Plays (Framed 2 2 1) Random5.ninth_random_script
unfolding Plays blank awaited least_free is_attached
ninth_random_script = refl

pub tenth_random_script : Plays (New 3) Random5.tenth_random_script
unfolding Plays blank awaited least_free is_attached
tenth_random_script = refl
