-- What is handed over, the oldest first: this repository's own.
use Rattle.std.specs.Prelude.{◌≡◌, ℕ, ◌<◌, ◌≤◌, IsTrue, List, [], ◌∷◌, None, is_some, length, map}
use Rattle.shm_model.specs.declared.event.Event.TheVariants.{Deliver}
use Rattle.shm_model.specs.World as model
use Rattle.shm_world.specs.World.{StandsFor, after}
use Rattle.shm_world.specs.declared.world.World.{World}

-- no envelope from this number on is on its way
abbrev pub NoneFrom : model.World → ℕ → Type 0
NoneFrom w from = (k : ℕ) → from ≤ k → model.live w k ≡ None

-- the envelope is on its way, and no older one from number `from` on is
pub record FirstFrom (w : model.World) (from number : ℕ) : Type 0 where
  pub past : from ≤ number
  pub going : IsTrue (is_some (model.live w number))
  pub older : (k : ℕ) → from ≤ k → k < number → model.live w k ≡ None

-- each of these envelopes is the oldest on its way when its turn comes
abbrev pub AreOldest : model.World → List ℕ → Type 0
AreOldest w [] = Unit {0}
AreOldest w (k ∷ ks) = FirstFrom w 0 k × AreOldest (model.next w (Deliver k)).world ks

-- so many envelopes were handed over, each the oldest when its turn came, and the world stands after that
pub record HandedOver {A : Type 0} (new : World A) (w : model.World) (deliveries : ℕ) : Type 0 where
  pub envelopes : List ℕ
  pub oldest : AreOldest w envelopes
  pub counted : length envelopes ≡ deliveries
  pub stands : StandsFor new (after w (map Deliver envelopes))

-- fewer than the budget's were
pub record HandedSome {A : Type 0} (new : World A) (w : model.World) (budget : ℕ) : Type 0 where
  pub deliveries : ℕ
  pub fewer : deliveries < budget
  pub handed : HandedOver new w deliveries
