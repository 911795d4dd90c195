-- The definitions compute what each schedule leaves.
use Rattle.std.proofs.Common.{refl}
use Rattle.shm_model.specs.Book.{awaited}
use Rattle.shm_model.specs.Site.{blank, is_attached, least_free}
use Rattle.shm_progress.specs.Schedule.{Goes}
use Rattle.shm_progress.specs.Schedules.Random1

pub first_schedule : Goes Random1.first Random1.first_left Random1.first_turned_away
unfolding Goes blank awaited least_free is_attached
first_schedule = refl

pub second_schedule : Goes Random1.second Random1.second_left Random1.second_turned_away
unfolding Goes blank awaited least_free is_attached
second_schedule = refl
