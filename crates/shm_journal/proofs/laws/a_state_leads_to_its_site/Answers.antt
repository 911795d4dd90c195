use Rattle.shm_journal.proofs.Lives.{state_found}
use Rattle.shm_journal.proofs.laws.a_state_leads_to_its_site.Goals as goal

pub returns : goal.returns
returns c = state_found
