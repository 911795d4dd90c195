use Rattle.shm_progress.proofs.Ending.Falls.{ends}
use Rattle.shm_progress.proofs.Ending.Rests.{rests-at}
use Rattle.shm_progress.proofs.delivery_laws.deliveries_end.Goals as goal

pub returns-clause-rest : goal.returns-clause-rest
returns-clause-rest c = λ o events envelopes on_way many. rests-at o events envelopes on_way many

pub returns-clause-most : goal.returns-clause-most
returns-clause-most c = λ o events envelopes on_way. ends o events envelopes on_way
