-- The clocks of steps, and of what they are as the definitions speak of them.
use Rattle.std.proofs.Common.{◌≡◌, ℕ, ◌==◌, List, [], ◌∷◌, ◌||◌, map, refl, ap}
use Rattle.std.specs.List.{list_any}
use Rattle.shm_logs.specs.Boxes.Logged.{logged_of}
use Rattle.shm_logs.specs.declared.site_boxes.logged_step.Step.{Step}
use Rattle.shm_audit.specs.Missing.{has_clock}

pub clock_mapped : {A : Type 0} (steps : List (Step A)) (clock : ℕ) → list_any (λ (s : Step A). s.stamp == clock) steps ≡ has_clock (map logged_of steps) clock
clock_mapped [] clock = refl
clock_mapped (step ∷ steps) clock = ap (λ b. (step.stamp == clock) || b) (clock_mapped steps clock)
