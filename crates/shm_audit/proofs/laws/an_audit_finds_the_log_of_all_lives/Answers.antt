use Rattle.shm_audit.proofs.LivesFound.{log_found, log_torn, log_whole}
use Rattle.shm_audit.proofs.laws.an_audit_finds_the_log_of_all_lives.Goals as goal

pub returns : goal.returns
returns c = record { whole = log_whole; torn = log_torn; sound = log_found }
