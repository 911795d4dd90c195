use Rattle.shm_logs.proofs.Audits.CauseLemmas.{no-cause}
use Rattle.shm_logs.proofs.log_audit.laws.what_is_audited_has_no_cause.Goals as goal

pub returns : goal.returns
returns c = no-cause
