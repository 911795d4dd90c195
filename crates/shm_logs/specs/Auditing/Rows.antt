-- A table of rows of numbers, as a list of lists.
use Rattle.std.specs.Prelude.{ℕ, List, map}
use Rattle.std.specs.declared.vec.Vec.{Vec}

abbrev pub rows_of : {A : Type 0} → List (Vec ℕ A) → List (List ℕ)
rows_of rows = map (λ row. row.items) rows
