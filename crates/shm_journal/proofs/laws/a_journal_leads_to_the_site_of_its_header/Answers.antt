use Rattle.shm_journal.proofs.Whose.{found_of_header}
use Rattle.shm_journal.proofs.laws.a_journal_leads_to_the_site_of_its_header.Goals as goal

pub returns-clause-sites : goal.returns-clause-sites
returns-clause-sites c = λ header file node h. (found_of_header header file node h).0

pub returns-clause-me : goal.returns-clause-me
returns-clause-me c = λ header file node h. (found_of_header header file node h).1
