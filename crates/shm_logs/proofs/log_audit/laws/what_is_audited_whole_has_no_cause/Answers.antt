use Rattle.shm_logs.proofs.Audits.CompleteLemmas.{none-of-all}
use Rattle.shm_logs.proofs.log_audit.laws.what_is_audited_whole_has_no_cause.Goals as goal

pub returns : goal.returns
returns c = none-of-all
