-- The definitions compute what each schedule leaves.
use Rattle.std.proofs.Common.{refl}
use Rattle.shm_model.specs.Book.{awaited}
use Rattle.shm_model.specs.Site.{blank, is_attached, least_free}
use Rattle.shm_progress.specs.Schedule.{Goes}
use Rattle.shm_progress.specs.Schedules.Random3

pub fifth_schedule : Goes Random3.fifth Random3.fifth_left Random3.fifth_turned_away
unfolding Goes blank awaited least_free is_attached
fifth_schedule = refl

pub sixth_schedule : Goes Random3.sixth Random3.sixth_left Random3.sixth_turned_away
unfolding Goes blank awaited least_free is_attached
sixth_schedule = refl
