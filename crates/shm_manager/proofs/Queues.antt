-- A ring of requests against the list that the definitions see.
use Rattle.std.proofs.Common.{◌≡◌, ℕ, List, [], ◌∷◌, refl}
use Rattle.shm_model.specs.Book.{is_waiting}
use Rattle.shm_manager.specs.declared.waiting_request.Ask.{Ask}
use Rattle.shm_manager.specs.Queue.{all_waiting, is_among}

pub among-waiting : (s r : ℕ) (asks : List Ask) → is_among s r asks ≡ is_waiting s r (all_waiting asks)
among-waiting s r [] = refl
among-waiting s r (ask ∷ asks) = rw (among-waiting s r asks) refl
