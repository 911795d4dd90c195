-- What the audit keeps of the receipts that it has looked at: which steps they named, and how far each site's have come.
use Rattle.std.specs.Prelude.{◌≡◌, ℕ, ◌+◌, ◌<◌, ◌≤◌, Bool, true, false, ◌&&◌, ◌||◌, List, [], ◌∷◌, Option, Some, None, ◌==◌, if◌then◌else◌, length, map, max, slice_index_or, slice_set}
use Rattle.shm_model.specs.Log.{Logged, log_of}
use Rattle.shm_model.specs.Receipt.{Receipt, IsTrueOf}
use Rattle.shm_logs.specs.declared.log_audit.receipt_marks.Marks.{Marks}

-- a mark for each step of each site's log
abbrev pub marks_of : {A : Type 0} → Marks A → List (List Bool)
marks_of marks = map (λ row. row.items) marks.rows.items

abbrev pub mark_at : List (List Bool) → ℕ → ℕ → Bool
mark_at marks s i = slice_index_or (slice_index_or marks s []) i false

abbrev pub marked : List (List Bool) → ℕ → ℕ → List (List Bool)
marked marks s i = slice_set marks s (slice_set (slice_index_or marks s []) i true)

abbrev pub unmarked : List Logged → List Bool
unmarked log = map (λ _. false) log

-- one of these receipts names the step of this index at this site
abbrev pub has_receipt : List Receipt → ℕ → ℕ → Bool
has_receipt [] s i = false
has_receipt (q ∷ qs) s i = ((q.site == s) && (q.index == i)) || has_receipt qs s i

-- the marks are those of the steps that these receipts name
pub record MarksName (logs : List (List Logged)) (marks : List (List Bool)) (rs : List Receipt) : Type 0 where
  pub rows : (s : ℕ) → length (slice_index_or marks s []) ≡ length (log_of logs s)
  pub named : (s i : ℕ) → mark_at marks s i ≡ has_receipt rs s i

-- the least index that is above those of the steps at this site which these receipts name
abbrev pub next_index : ℕ → List Receipt → ℕ
next_index s [] = 0
next_index s (q ∷ qs) = if q.site == s then max (q.index + 1) (next_index s qs) else next_index s qs

-- the least index above this one, where there is one
abbrev pub next_of : Option ℕ → ℕ
next_of None = 0
next_of (Some i) = i + 1

-- the last steps at each of 16 sites that these receipts name
abbrev pub AreLast : List (Option ℕ) → List Receipt → Type 0
AreLast last rs = (s : ℕ) → s < 16 → next_of (slice_index_or last s None) ≡ next_index s rs

-- after the receipts that these marks and last steps are of, this receipt holds too
pub record IsNext (logs : List (List Logged)) (marks : List (List Bool)) (last : List (Option ℕ)) (r : Receipt) : Type 0 where
  pub true_of : IsTrueOf logs r
  pub new : mark_at marks r.site r.index ≡ false
  pub rises : next_of (slice_index_or last r.site None) ≤ r.index
