-- What a reader without marks has left to give.
use Rattle.std.specs.Prelude.{ℕ, Bool, List, [], Option, if◌then◌else◌, option_map}
use Rattle.shm_batches.specs.UnmarkedLine.{left_of_line}
use Rattle.shm_batches.specs.declared.unmarked_reader.UnmarkedReader.{UnmarkedReader}

-- nothing, once the end was met; else what its line leaves
abbrev pub left_if : Bool → List ℕ → ℕ → Option (List ℕ) → Option (List ℕ)
left_if is_over line at remaining = option_map (λ rest. if is_over then [] else left_of_line line at rest) remaining

abbrev pub left_unmarked : {B A : Type 0} → UnmarkedReader B A → Option (List ℕ) → Option (List ℕ)
left_unmarked reader remaining = left_if reader.is_over reader.line.items reader.at remaining
