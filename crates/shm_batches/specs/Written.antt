-- What may be written as a batch: lines that are whole, none of which begins as a mark.
use Rattle.std.specs.List.{All}
use Rattle.std.specs.Prelude.{◌≡◌, ℕ, false, List, [], ◌∷◌, ◌++◌}
use Rattle.shm_batches.specs.Chain.{begins_as_mark}
use Rattle.shm_journal.specs.LinesOf.{Unended}

-- one of a journal's lines
pub record IsPlain (line : List ℕ) : Type 0 where
  pub unended : Unended line
  pub plain : begins_as_mark line ≡ false

-- lines, with their line feeds
abbrev pub lines_text : List (List ℕ) → List ℕ
lines_text [] = []
lines_text (line ∷ lines) = (line ++ 10 ∷ []) ++ lines_text lines

pub record IsBatch (text : List ℕ) : Type 0 where
  pub lines : List (List ℕ)
  pub are_plain : All IsPlain lines
  pub whole : text ≡ lines_text lines
