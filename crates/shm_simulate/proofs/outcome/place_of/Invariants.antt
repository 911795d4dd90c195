use Rattle.std.proofs.Common.{◌≡◌, ℕ, ◌<◌, Some, false, slice_get}
use Rattle.std.specs.Prelude.{map}
use Rattle.shm_simulate.specs.Outcomes.{same_given}
use Rattle.shm_simulate.specs.declared.line_state.LineState.{LineState}
use Rattle.shm_simulate.specs.declared.outcome.Outcome.{Outcome}
use Rattle.shm_simulate.proofs.outcome.place_of.Given as goal

-- none so far is the outcome of these lines
abbrev pub invariant-outcomes : goal.invariant-outcomes
invariant-outcomes l = (k : ℕ) (outcome : Outcome) → k < l.place → slice_get l.outcomes k ≡ Some outcome
    → same_given outcome.given.items (map (λ (line : LineState). line.gave) l.lines) ≡ false
