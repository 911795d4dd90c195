-- Steps of the world of the code, against those of the definitions.
use Rattle.std.specs.Prelude.{◌≡◌}
use Rattle.shm_model.specs.declared.answer.Answer.{Answer}
use Rattle.shm_model.specs.World.{Next}
use Rattle.shm_world.specs.World.{StandsFor}
use Rattle.shm_world.specs.declared.world.World.{World}

-- the world went where the definitions' goes next, and answered what it answers
pub record Went {A : Type 0} (new : World A) (next : Next) (answer : Answer) : Type 0 where
  pub stands : StandsFor new next.world
  pub answered : answer ≡ next.done.answer
