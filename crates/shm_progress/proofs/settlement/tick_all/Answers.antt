use Rattle.shm_progress.proofs.Rest.Rounds.{ticked-more}
use Rattle.shm_progress.proofs.settlement.tick_all.Goals as goal

pub sites-preserved : goal.sites-preserved
sites-preserved g c = λ w stands. ticked-more c.step.new.self w c.sites.site (c.in_ok-step.ensures.next _ (c.sites.invariant w stands)).stands
