use Rattle.shm_logs.proofs.Audits.CauseLemmas.{one-cause}
use Rattle.shm_logs.proofs.log_audit.laws.first_causes_are_one.Goals as goal

pub returns : goal.returns
returns c = one-cause
