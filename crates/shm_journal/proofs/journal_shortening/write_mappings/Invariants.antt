use Rattle.std.proofs.Common.{◌≡◌, ◌++◌, drop, string_bytes}
use Rattle.std.specs.Prelude.{map}
use Rattle.shm_journal.specs.Begun.{lines_text}
use Rattle.shm_journal.specs.StateLines.{OfMapping}
use Rattle.shm_journal.proofs.journal_shortening.write_mappings.Given as goal

-- what is written, and the lines of the pages that are left, are all
abbrev pub invariant-mapped : goal.invariant-mapped
invariant-mapped g l =
    string_bytes l.out ++ lines_text (map OfMapping (drop l.mapping-index l.mapped)) ≡ string_bytes l.initial.out ++ lines_text (map OfMapping l.mapped)
