use Rattle.shm_progress.proofs.ServedLater.{served, served-later}
use Rattle.shm_progress.proofs.round_laws.nothing_stops_a_site_for_good.Goals as goal

pub returns-clause-later : goal.returns-clause-later
returns-clause-later c = λ o events opening. served-later o opening events

pub returns-clause-served : goal.returns-clause-served
returns-clause-served c = λ o events opening room. served o opening events room
