use Rattle.shm_progress.proofs.Ending.Falls.{counts}
use Rattle.shm_progress.proofs.delivery_laws.each_delivery_counts.Goals as goal

pub returns : goal.returns
returns c = λ o events k going. counts o events k going
