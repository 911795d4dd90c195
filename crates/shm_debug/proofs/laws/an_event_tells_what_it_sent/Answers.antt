use Rattle.shm_debug.proofs.Sending.{each_event_tells}
use Rattle.shm_debug.proofs.laws.an_event_tells_what_it_sent.Goals as goal

pub returns : goal.returns
returns c = each_event_tells
