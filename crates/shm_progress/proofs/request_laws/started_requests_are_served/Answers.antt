use Rattle.shm_progress.proofs.Request.Serving.{started-served}
use Rattle.shm_progress.proofs.request_laws.started_requests_are_served.Goals as goal

pub returns : goal.returns
returns c = λ o events opening. started-served o opening events
