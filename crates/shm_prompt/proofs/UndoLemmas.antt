-- The last of some events that changed something.
use Rattle.std.proofs.Common.{◌≡◌, ℕ, ◌+◌, ◌<◌, List, [], ◌∷◌, ◌++◌, length, take, get_or, Option, Some, refl, suc, sym, ap, ap₂, subst, ◌∙◌, arith}
use Rattle.std.proofs.lemmas.List.{take_more}
use Rattle.std.proofs.lemmas.Option.{slice_get_read}
use Rattle.std.specs.Prelude.{if◌then◌else◌}
use Rattle.shm_model.specs.World as model
use Rattle.shm_model.specs.declared.answer.Answer.{Answer}
use Rattle.shm_model.specs.declared.event.Event.{Event}
use Rattle.shm_world.proofs.Runs.{run-then}
use Rattle.shm_debug.specs.Standing.{first_events, standing, world_of}
use Rattle.shm_prompt.specs.Undo.{changes_at, has_changed, last_change, tells_change}

-- the world after one event more
pub world-more : (o : model.Opening) (events : List Event) (i : ℕ) (e : Event) → i < length events → e ≡ get_or events i e
    → world_of (first_events (i + 1) (standing o events)) ≡ (model.next (world_of (first_events i (standing o events))) e).world
world-more o events i e below here =
    ap (λ xs. (model.run o xs).world) (take_more events i e below ∙ ap (λ x. take i events ++ x ∷ []) (sym here))
    ∙ run-then o (take i events) (e ∷ [])

changed-here : (o : model.Opening) (events : List Event) (i : ℕ) (e : Event) → i < length events → e ≡ get_or events i e
    → has_changed (standing o events) i ≡ tells_change (model.next (world_of (first_events i (standing o events))) e).done.answer
changed-here o events i e below here =
    ap (changes_at (world_of (first_events i (standing o events)))) (slice_get_read events (length events) i e refl below here)

-- the last change among one event more
pub change-more : (o : model.Opening) (events : List Event) (i : ℕ) (e : Event) (answer : Answer) (found later : Option ℕ) → i < length events → e ≡ get_or events i e
    → answer ≡ (model.next (world_of (first_events i (standing o events))) e).done.answer
    → found ≡ last_change (standing o events) i
    → later ≡ (if tells_change answer then Some i else found)
    → later ≡ last_change (standing o events) (i + 1)
change-more o events i e answer found later below here same before is =
    let next : suc i ≡ i + 1 = omega arith in
    subst (λ n. later ≡ last_change (standing o events) n) next (
    is ∙ ap₂ (λ b found. if b then Some i else found) (ap tells_change same ∙ sym (changed-here o events i e below here)) before
    )
