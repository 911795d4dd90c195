use Rattle.shm_audit.proofs.LivesFound.{site_found, site_torn, site_whole}
use Rattle.shm_audit.proofs.StatesFound.{site_found_from}
use Rattle.shm_audit.proofs.laws.a_summary_finds_the_site_after_all_lives.Goals as goal

pub returns : goal.returns
returns c = record { whole = site_whole; torn = site_torn; sound = site_found; from = site_found_from }
