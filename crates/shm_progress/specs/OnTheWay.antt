-- What is on its way while nothing is lost: this repository's own.
use Rattle.std.specs.Prelude.{◌≡◌, ℕ, Bool, true, false, List, [], ◌∷◌, ◌++◌, Some}
use Rattle.shm_model.specs.declared.event.Event.{Event}
use Rattle.shm_model.specs.declared.event.Event.TheVariants.{Lose, Tick}
use Rattle.shm_model.specs.Message.{Envelope}
use Rattle.shm_model.specs.World.{Opening, World, live, run}

-- this envelope was sent, and is neither delivered nor lost
abbrev pub IsOnItsWay : World → Envelope → Type 0
IsOnItsWay w e = (k : ℕ) × (live w k ≡ Some e)

abbrev pub is_loss : Event → Bool
is_loss (Lose _) = true
is_loss _ = false

-- none of these events loses an envelope; restarts may be among them
abbrev pub NothingLost : List Event → Type 0
NothingLost [] = Unit {0}
NothingLost (e ∷ es) = (is_loss e ≡ false) × NothingLost es

-- the world after the first events, a tick of this site, and the later events
abbrev pub world_since : Opening → List Event → ℕ → List Event → World
world_since o earlier site later = (run o (earlier ++ (Tick site ∷ later))).world
