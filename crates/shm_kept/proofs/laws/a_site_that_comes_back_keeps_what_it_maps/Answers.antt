use Rattle.shm_kept.proofs.Desks.{back-kept, entries-back}
use Rattle.shm_kept.proofs.laws.a_site_that_comes_back_keeps_what_it_maps.Goals as goal

pub returns-clause-steps : goal.returns-clause-steps
returns-clause-steps c = back-kept

pub returns-clause-entries : goal.returns-clause-entries
returns-clause-entries c = entries-back
