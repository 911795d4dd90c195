use Rattle.shm_journal.proofs.CrashLemmas.{kept_before_telling}
use Rattle.shm_journal.proofs.laws.nothing_is_told_before_it_is_durable.Goals as goal

pub returns : goal.returns
returns c = kept_before_telling
