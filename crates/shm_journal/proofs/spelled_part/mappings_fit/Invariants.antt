use Rattle.std.proofs.Common.{take}
use Rattle.std.specs.List.{All}
use Rattle.shm_journal.specs.StateLines.{IsMapping}
use Rattle.shm_journal.proofs.spelled_part.mappings_fit.Given as goal

abbrev pub invariant-mapped : goal.invariant-mapped
invariant-mapped l = All IsMapping (take l.mapping-index l.mapped)
