-- The definitions compute what each schedule leaves.
use Rattle.std.proofs.Common.{refl}
use Rattle.shm_model.specs.Book.{awaited}
use Rattle.shm_model.specs.Site.{blank, is_attached, least_free}
use Rattle.shm_progress.specs.Schedule.{Goes}
use Rattle.shm_progress.specs.Schedules.Random4

pub seventh_schedule : Goes Random4.seventh Random4.seventh_left Random4.seventh_turned_away
unfolding Goes blank awaited least_free is_attached
seventh_schedule = refl

pub eighth_schedule : Goes Random4.eighth Random4.eighth_left Random4.eighth_turned_away
unfolding Goes blank awaited least_free is_attached
eighth_schedule = refl
