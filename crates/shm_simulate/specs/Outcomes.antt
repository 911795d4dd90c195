-- The outcomes of runs, and how often each came.
use Rattle.std.specs.Prelude.{◌≡◌, ℕ, ◌<◌, ◌==◌, ◌&&◌, Bool, true, false, List, [], ◌∷◌, Some, count_by, length, slice_get, sum_by}
use Rattle.shm_model.specs.declared.event.Event.{Event}
use Rattle.shm_simulate.specs.declared.gave.Gave.{Gave}
use Rattle.shm_simulate.specs.declared.gave.Gave.TheVariants as gave
use Rattle.shm_simulate.specs.declared.line_state.LineState.{LineState}
use Rattle.shm_simulate.specs.declared.outcome.Outcome.{Outcome}

abbrev pub same_gave : Gave → Gave → Bool
same_gave gave.Nothing gave.Nothing = true
same_gave (gave.Byte a) (gave.Byte b) = a == b
same_gave gave.Stored gave.Stored = true
same_gave _ _ = false

-- the lines gave the same
abbrev pub same_given : List Gave → List Gave → Bool
same_given [] [] = true
same_given [] (b ∷ ys) = false
same_given (a ∷ xs) [] = false
same_given (a ∷ xs) (b ∷ ys) = same_gave a b && same_given xs ys

abbrev pub agrees : Gave × LineState → Bool
agrees pair = same_gave pair.0 pair.1.gave

-- the outcome has a place among these
pub record IsAmong (outcomes : List Outcome) (given : List Gave) : Type 0 where
  pub place : ℕ
  pub outcome : Outcome
  pub there : slice_get outcomes place ≡ Some outcome
  pub same : outcome.given.items ≡ given

-- the run of this number is the first whose lines gave this
pub record IsFirstOf (givens : List (List Gave)) (run : ℕ) (given : List Gave) : Type 0 where
  pub gave : slice_get givens run ≡ Some given
  pub first : (earlier : ℕ) → earlier < run → slice_get givens earlier ≡ Some given → ⊥

-- The outcomes of these runs, whose events and whose lines' bytes are listed. Each run's outcome stands among them, once, with the number of
-- the runs that came to it; so the counts add up to the number of runs. Beside it stand the number and the events of the first of these
-- runs, and in the order of these numbers the outcomes stand.
pub record Tallied (givens : List (List Gave)) (schedules : List (List Event)) (outcomes : List Outcome) : Type 0 where
  pub counts : (place : ℕ) (outcome : Outcome) → slice_get outcomes place ≡ Some outcome
      → outcome.count ≡ count_by (same_given outcome.given.items) givens
  pub kept : (place : ℕ) (outcome : Outcome) → slice_get outcomes place ≡ Some outcome
      → (slice_get schedules outcome.run ≡ Some outcome.events.items) × IsFirstOf givens outcome.run outcome.given.items
  pub told : (run : ℕ) (given : List Gave) → slice_get givens run ≡ Some given → IsAmong outcomes given
  pub once : (i j : ℕ) (a b : Outcome) → slice_get outcomes i ≡ Some a → slice_get outcomes j ≡ Some b → a.given.items ≡ b.given.items → i ≡ j
  pub in_order : (i j : ℕ) (a b : Outcome) → slice_get outcomes i ≡ Some a → slice_get outcomes j ≡ Some b → i < j → a.run < b.run
  pub whole : sum_by (λ (outcome : Outcome). outcome.count) outcomes ≡ length givens
