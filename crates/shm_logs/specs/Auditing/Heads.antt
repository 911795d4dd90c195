-- The steps that logs have left, where so many of each log were taken.
use Rattle.std.specs.Prelude.{◌≡◌, ℕ, ◌<◌, ◌≤◌, ◌⊎◌, List, Option, Some, None, if◌then◌else◌, nat_lt, slice_get, slice_index}
use Rattle.shm_model.specs.Log.{Logged, log_of}
use Rattle.shm_logs.specs.declared.log_audit.merge_logs.Head.{Head}

-- the site's first step that is left
abbrev pub next : List (List Logged) → List ℕ → ℕ → Option Logged
next logs heads s = slice_get (log_of logs s) (slice_index heads s)

-- it tells of the step of this index in the log of this site
pub record TellsStep (log : List Logged) (s i : ℕ) (head : Head) : Type 0 where
  pub step : Logged
  pub there : slice_get log i ≡ Some step
  pub of_site : head.site ≡ s
  pub at : head.index ≡ i
  pub stamped : head.stamp ≡ step.stamp

abbrev pub TellsStepIf : List Logged → ℕ → ℕ → Option Head → Type 0
TellsStepIf log s i None = slice_get log i ≡ None
TellsStepIf log s i (Some head) = TellsStep log s i head

-- of the first sites, so many of them, none has a step left that comes before it
pub record IsLeast (logs : List (List Logged)) (heads : List ℕ) (count : ℕ) (head : Head) : Type 0 where
  pub below : head.site < count
  pub left : TellsStep (log_of logs head.site) head.site (slice_index heads head.site) head
  pub least : (s : ℕ) (l : Logged) → s < count → next logs heads s ≡ Some l → (head.stamp < l.stamp) ⊎ ((head.stamp ≡ l.stamp) × (head.site ≤ s))

abbrev pub IsLeastIf : List (List Logged) → List ℕ → ℕ → Option Head → Type 0
IsLeastIf logs heads count None = (s : ℕ) → s < count → next logs heads s ≡ None
IsLeastIf logs heads count (Some head) = IsLeast logs heads count head

-- the one with the lower stamp; the first, where they have the same
abbrev pub lesser : Option Head → Option Head → Option Head
lesser None other = other
lesser (Some one) None = Some one
lesser (Some one) (Some other) = if nat_lt other.stamp one.stamp then Some other else Some one
