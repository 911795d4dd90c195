use Rattle.shm_progress.proofs.Ending.Few.{few, left-is-few}
use Rattle.shm_progress.proofs.delivery_laws.deliveries_are_few.Goals as goal

pub returns-clause-measure : goal.returns-clause-measure
returns-clause-measure c = λ o events opening. left-is-few o opening events

pub returns-clause-most : goal.returns-clause-most
returns-clause-most c = λ o events envelopes opening on_way. few o opening events envelopes on_way
