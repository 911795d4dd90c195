-- The first steps of a node's events are those of the first events: each event makes at most one.
use Rattle.std.proofs.Common.{◌≡◌, ℕ, suc, List, [], ◌∷◌, ◌++◌, take, refl, ap, ◌∙◌}
use Rattle.std.specs.Prelude.{Option, Some, None}
use Rattle.shm_process.specs.Node.{Node, Said}
use Rattle.shm_process.specs.Recorded.{Entry, Event, after_event, entries_of, entry_of, recorded, said_at}

abbrev pub FirstEvents : Node → List Event → List Entry → Type 0
FirstEvents node events steps = (k : ℕ) × (entries_of node (take k events) ≡ steps)

first-step : (node : Node) (event : Event) (events : List Event) (said : Option Said) (steps more : List Entry) → said_at node event ≡ said
    → ((xs : List Entry) → entries_of (after_event node event) events ≡ xs ++ more → FirstEvents (after_event node event) events xs)
    → recorded said (entries_of (after_event node event) events) ≡ steps ++ more → FirstEvents node (event ∷ events) steps
first-step node event events None steps more is others e =
    let f = others steps e in (suc f.0, ap (λ s. recorded s (entries_of (after_event node event) (take f.0 events))) is ∙ f.1)
first-step node event events (Some said) [] more is others e = (0, refl)
first-step node event events (Some said) (s ∷ steps) more is others e =
    let rest : entries_of (after_event node event) events ≡ steps ++ more = cc in
    let same : entry_of said ≡ s = cc in
    let f = others steps rest in (
      suc f.0,
      ap (λ s. recorded s (entries_of (after_event node event) (take f.0 events))) is ∙ ap (λ l. entry_of said ∷ l) f.1 ∙ ap (λ x. x ∷ steps) same,
    )

no-steps : (steps more : List Entry) → [] ≡ steps ++ more → [] ≡ steps
no-steps [] more e = refl
no-steps (s ∷ steps) more e = absurd (cc)

pub first_events : (events : List Event) (node : Node) (steps more : List Entry) → entries_of node events ≡ steps ++ more → FirstEvents node events steps
first_events [] node steps more e = (0, no-steps steps more e)
first_events (event ∷ events) node steps more e =
    first-step node event events (said_at node event) steps more refl (λ xs. first_events events (after_event node event) xs more) e
