-- The next event, as the code chooses it.
use Rattle.std.specs.Prelude.{◌≡◌}
use Rattle.shm_model.specs.World.{World}
use Rattle.shm_stepped.specs.Cost.{kind_of}
use Rattle.shm_stepped.specs.Waiting.{Comes, access_event, handed, reaches}
use Rattle.shm_stepped.specs.declared.waiting_access.Choice.{Choice}
use Rattle.shm_stepped.specs.declared.waiting_access.Wait.{Wait}

pub record Chose (w : World) (wait : Wait) (choice : Choice) : Type 0 where
  pub comes : Comes w (access_event wait.site wait.asked) wait.due wait.tick choice.event
  pub kind : choice.kind ≡ kind_of w choice.event
  pub reaches : choice.reaches ≡ reaches wait.site (handed w choice.event)
