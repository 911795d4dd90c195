-- Going on from a checkpoint, event by event.
use Rattle.std.proofs.Common.{◌≡◌, ℕ, ◌+◌, ◌<◌, ◌≤◌, List, [], ◌∷◌, ◌++◌, Result, Ok, Err, OnOk, OnErr, length, take, get_or, sym, ap, ◌∙◌, subst}
use Rattle.std.proofs.lemmas.List.{take_all, take_more}
use Rattle.shm_model.specs.declared.event.Event.{Event}
use Rattle.shm_model.specs.World as model
use Rattle.shm_world.specs.World.{StandsFor}
use Rattle.shm_world.specs.declared.world.World.{World}
use Rattle.shm_debug.specs.Checkpoints.{AllHold}
use Rattle.shm_debug.specs.Standing.{standing}
use Rattle.shm_debug.specs.declared.checkpoints.Checkpoints.{Checkpoints}
use Rattle.shm_debug.proofs.Holding.{all-longer}

-- the world after the first i events, and one event more
pub one-more : {A : Type 0} (world : World A) (o : model.Opening) (events : List Event) (i : ℕ) (e : Event) → i < length events → e ≡ get_or events i e
    → StandsFor world (model.run o (take i events ++ e ∷ [])).world → StandsFor world (model.run o (take (i + 1) events)).world
one-more {A} world o events i e below here stands =
    let more : take (i + 1) events ≡ take i events ++ e ∷ [] = take_more events i e below ∙ ap (λ x. take i events ++ x ∷ []) (sym here) in
    subst (λ (xs : List Event). StandsFor {A = A} world (model.run o xs).world) (sym more) stands

-- all events
pub all-run : {A : Type 0} (world : World A) (o : model.Opening) (events : List Event) (i : ℕ) → length events ≤ i → StandsFor world (model.run o (take i events)).world → StandsFor world (model.run o events).world
all-run {A} world o events i all stands = subst (λ (xs : List Event). StandsFor {A = A} world (model.run o xs).world) (take_all i events all) stands

-- an event that joins the others, or doesn't
pub joined : {A X E : Type 0} (r : Result X E) (world : World A) (checkpoints : Checkpoints A) (o : model.Opening) (old new : List Event) (e : Event)
    → OnOk r (StandsFor world (model.run o (old ++ e ∷ [])).world) → OnOk r (new ≡ old ++ e ∷ [])
    → OnErr r (StandsFor world (model.run o old).world) → OnErr r (new ≡ old)
    → AllHold (standing o old) checkpoints → StandsFor world (model.run o new).world × AllHold (standing o new) checkpoints
joined {A} (Ok x) world checkpoints o old new e stands same stays still all = (
  subst (λ (xs : List Event). StandsFor {A = A} world (model.run o xs).world) (sym same) stands,
  subst (λ (xs : List Event). AllHold {A = A} (standing o xs) checkpoints) (sym same) (all-longer (standing o old) (e ∷ []) checkpoints.ring.items all),
)
joined {A} (Err x) world checkpoints o old new e stands same stays still all = (
  subst (λ (xs : List Event). StandsFor {A = A} world (model.run o xs).world) (sym still) stays,
  subst (λ (xs : List Event). AllHold {A = A} (standing o xs) checkpoints) (sym still) all,
)
