-- What telling the steps of a run leaves.
use Rattle.std.specs.Prelude.{◌≡◌, ℕ, List, ◌++◌}
use Rattle.shm_place.specs.declared.page_id.PageId.{PageId}
use Rattle.shm_model.specs.declared.event.Event.{Event}
use Rattle.shm_model.specs.World as model
use Rattle.shm_world.specs.World.{StandsFor}
use Rattle.shm_world.specs.declared.world.World.{World}
use Rattle.shm_steps.specs.Steps.{section_text}

-- the event was made, and its section told
pub record ToldStep {A : Type 0} (pages : List PageId) (w : model.World) (number : ℕ) (e : Event) (old new : List ℕ) (world : World A) : Type 0 where
  pub text : new ≡ old ++ section_text pages w number e
  pub stands : StandsFor world (model.next w e).world
