-- A row of the code, as the definitions speak of it.
use Rattle.shm_process.specs.Rows.{Accesses, Loads, Stores}
use Rattle.shm_process.specs.Rows as spec
use Rattle.shm_process.specs.declared.access_row.Accesses.{Accesses as Made}
use Rattle.shm_process.specs.declared.access_row.Accesses.TheVariants as made
use Rattle.shm_process.specs.declared.access_row.Row.{Row}
use Rattle.shm_wire.specs.TagOf.{tag_text}

abbrev pub accesses_of : {A : Type 0} → Made A → Accesses
accesses_of (made.Loads count) = Loads count
accesses_of (made.Stores bytes) = Stores bytes.items

abbrev pub row_of : {A : Type 0} → Row A → spec.Row
row_of row = record {
  clock = row.clock;
  tag = tag_text row.tag;
  at = row.at;
  offset = row.offset;
  accesses = accesses_of row.accesses;
}
