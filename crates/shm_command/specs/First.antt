-- What stands in a journal's file that has no whole batch: what a crash may leave of the first, or the lines of an earlier version.
use Rattle.std.specs.Prelude.{◌≡◌, ◌<◌, ℕ, ◌==◌, ◌&&◌, ◌||◌, Bool, true, false, not, List, [], ◌∷◌, ◌++◌, codes, EachIndex, is_some, length, slice_get, slice_index}
use Rattle.std.specs.Option.{option_map_or}
use Rattle.std.specs.List.{starts_with}
use Rattle.shm_batches.specs.Chain.{batch_text, unmarked}
use Rattle.shm_journal.specs.Found.{is_long}
use Rattle.shm_journal.specs.Lines.{Header, header_line, read_header}

-- the header, and its mark
abbrev pub first_batch : Header → List ℕ
first_batch header = batch_text unmarked (header_line header ++ 10 ∷ [])

-- this byte is the batch's at this place, or zero
abbrev pub may_stand : List ℕ → ℕ → ℕ → Bool
may_stand batch at byte = option_map_or (λ own. (byte == 0) || (byte == own)) (slice_get batch at) (byte == 0)

-- A crash may leave these bytes of the batch: each is the batch's at its place, or zero. There are fewer than in any file that is worth keeping.
pub record IsLeftOf (batch bytes : List ℕ) : Type 0 where
  pub short : length bytes < 4096
  pub each : EachIndex bytes (λ k. may_stand batch k (slice_index bytes k) ≡ true)

-- an earlier version wrote no marks: a header comes first, and then an entry
abbrev pub begins_unmarked : List (List ℕ) → Bool
begins_unmarked [] = false
begins_unmarked (first ∷ []) = false
begins_unmarked (first ∷ entry ∷ lines) = not (is_long first) && is_some (read_header first) && not (is_long entry) && starts_with (λ a b. a == b) entry (codes "step ")
