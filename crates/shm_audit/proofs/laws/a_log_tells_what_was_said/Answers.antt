use Rattle.shm_audit.proofs.Tellings.{entries_tell, logs_tell}
use Rattle.shm_audit.proofs.laws.a_log_tells_what_was_said.Goals as goal

pub returns : goal.returns
returns c = record { steps = logs_tell; entries = entries_tell }
