use Rattle.shm_logs.proofs.Audits.CompleteLemmas.{one-of-all}
use Rattle.shm_logs.proofs.log_audit.laws.first_causes_of_all_are_one.Goals as goal

pub returns : goal.returns
returns c = one-of-all
