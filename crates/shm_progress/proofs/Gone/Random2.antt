-- The definitions compute what each schedule leaves.
use Rattle.std.proofs.Common.{refl}
use Rattle.shm_model.specs.Book.{awaited}
use Rattle.shm_model.specs.Site.{blank, is_attached, least_free}
use Rattle.shm_progress.specs.Schedule.{Goes}
use Rattle.shm_progress.specs.Schedules.Random2

pub third_schedule : Goes Random2.third Random2.third_left Random2.third_turned_away
unfolding Goes blank awaited least_free is_attached
third_schedule = refl

pub fourth_schedule : Goes Random2.fourth Random2.fourth_left Random2.fourth_turned_away
unfolding Goes blank awaited least_free is_attached
fourth_schedule = refl
