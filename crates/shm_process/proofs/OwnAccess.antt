-- An access hands over no envelope.
use Rattle.std.proofs.Common.{◌≡◌, ℕ, true, false, refl}
use Rattle.shm_model.specs.Message.{Input, Load, Store, Begin, Deliver, Tick, Restart}
use Rattle.shm_site.specs.Step.{is_foreign}
use Rattle.shm_process.specs.Access.{is_access}

pub own_access : (sites me : ℕ) (input : Input) → is_access input ≡ true → is_foreign sites me input ≡ false
own_access sites me (Load at offset) h = refl
own_access sites me (Store at offset byte) h = refl
own_access sites me (Begin request) h = absurd (cc)
own_access sites me (Deliver e) h = absurd (cc)
own_access sites me Tick h = absurd (cc)
own_access sites me Restart h = absurd (cc)
