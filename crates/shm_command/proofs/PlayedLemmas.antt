-- A session in which events happen, one after the other.
use Rattle.std.proofs.Common.{◌≡◌, ◌∙◌, ℕ, ◌+◌, ◌<◌, ◌≤◌, List, [], ◌∷◌, ◌++◌, ap, get_or, length, sym, take}
use Rattle.std.proofs.lemmas.List.{take_all, take_more}
use Rattle.shm_debug.specs.Standing.{Standing, standing, with_event}
use Rattle.shm_model.specs.World.{Opening}
use Rattle.shm_model.specs.declared.event.Event.{Event}

-- one more event
pub played : (o : Opening) (events : List Event) (i : ℕ) (e : Event) (before after : Standing) → i < length events → e ≡ get_or events i e
    → before ≡ standing o (take i events) → after ≡ with_event before e → after ≡ standing o (take (i + 1) events)
played o events i e before after below here was is =
    let longer : take (i + 1) events ≡ take i events ++ e ∷ [] =
    take_more events i e below ∙ ap (λ x. take i events ++ x ∷ []) (sym here) in
    is ∙ ap (λ s. with_event s e) was ∙ ap (standing o) (sym longer)

-- all events
pub all_played : (o : Opening) (events : List Event) (i : ℕ) (s : Standing) → length events ≤ i → s ≡ standing o (take i events) → s ≡ standing o events
all_played o events i s all is = is ∙ ap (standing o) (take_all i events all)
