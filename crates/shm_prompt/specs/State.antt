-- What a dialog keeps between two lines.
use Rattle.std.specs.Prelude.{List, Option}
use Rattle.shm_draw.specs.Captions.{Beside}
use Rattle.shm_debug.specs.Standing.{Standing}

-- what stands, and the notes for its lines, the lowest first
pub record State : Type 0 where
  pub standing : Option Standing
  pub notes : List Beside
