-- A desk of the code, as the definitions speak of it.
use Rattle.std.specs.Prelude.{map, option_map, string_bytes}
use Rattle.shm_process.specs.CountsOf.{counts_of}
use Rattle.shm_process.specs.Desk as spec
use Rattle.shm_process.specs.NodeOf.{node_of}
use Rattle.shm_process.specs.RowOf.{row_of}
use Rattle.shm_process.specs.declared.desk.Desk.{Desk}
use Rattle.shm_process.specs.declared.kept_line.KeptLine.{KeptLine}
use Rattle.shm_seal.specs.SealOf.{seal_of}

abbrev pub kept_of : {A : Type 0} → KeptLine A → spec.KeptLine
kept_of kept = record { line = kept.line.items; page = kept.page }

abbrev pub desk_of : {A : Type 0} → Desk A → spec.Desk
desk_of desk = record {
  node = node_of desk.node;
  seal = seal_of desk.seal;
  opening = desk.opening;
  other = desk.other;
  later = desk.later;
  counts = counts_of desk.counts;
  line = desk.line.items;
  kept = map kept_of desk.kept.items;
  recorded = desk.recorded.items;
  row = option_map row_of desk.row;
  told = string_bytes desk.told;
}
