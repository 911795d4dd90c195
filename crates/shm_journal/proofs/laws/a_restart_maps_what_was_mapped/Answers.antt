use Rattle.shm_journal.proofs.MappedLives.{mapped_from, mapped_state}
use Rattle.shm_journal.specs.Found.{opened}
use Rattle.shm_journal.proofs.laws.a_restart_maps_what_was_mapped.Goals as goal

pub returns : goal.returns
returns c = record {
  anew = λ header seal start lives life. mapped_from header seal (opened header) start lives life;
  from = λ b seal start lives life. mapped_from b.header seal b.node start lives life;
  state = mapped_state;
}
