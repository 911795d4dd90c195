-- The definitions compute what each schedule leaves.
use Rattle.std.proofs.Common.{refl}
use Rattle.shm_model.specs.Book.{awaited}
use Rattle.shm_model.specs.Site.{blank, is_attached, least_free}
use Rattle.shm_progress.specs.Schedule.{Goes}
use Rattle.shm_progress.specs.Schedules.Random5

pub ninth_schedule : Goes Random5.ninth Random5.ninth_left Random5.ninth_turned_away
unfolding Goes blank awaited least_free is_attached
ninth_schedule = refl

pub tenth_schedule : Goes Random5.tenth Random5.tenth_left Random5.tenth_turned_away
unfolding Goes blank awaited least_free is_attached
tenth_schedule = refl
