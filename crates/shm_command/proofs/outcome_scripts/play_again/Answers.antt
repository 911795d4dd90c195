-- The events happen one after the other.
use Rattle.shm_model.specs.World.{Preset}
use Rattle.shm_command.proofs.PlayedLemmas.{played}
use Rattle.shm_command.proofs.outcome_scripts.play_again.Goals as goal

pub events-preserved : goal.events-preserved
events-preserved c =
    played (Preset c.args.sites c.args.pages) c.args.events.now c.events.event-index c.event-item.result c.events.session c.happen.new.session
    c.events-test.true c.event-item.is c.events.invariant c.in_ok-happen.ensures
