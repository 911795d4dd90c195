use Rattle.shm_process.proofs.Replays.{replays}
use Rattle.shm_process.proofs.laws.recorded_steps_lead_to_the_same_site.Goals as goal

pub returns : goal.returns
returns c = replays
