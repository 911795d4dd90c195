use Rattle.std.proofs.Common.{◌≡◌, ◌++◌, drop, string_bytes}
use Rattle.std.specs.Prelude.{map}
use Rattle.shm_state.specs.PartOf.{part_in}
use Rattle.shm_journal.specs.Begun.{lines_text}
use Rattle.shm_journal.specs.StateLines.{OfPart}
use Rattle.shm_journal.proofs.journal_shortening.write_parts.Given as goal

-- what is written, and the lines of the parts that are left, are all
abbrev pub invariant-parts : goal.invariant-parts
invariant-parts g l =
    string_bytes l.out ++ lines_text (map OfPart (map part_in (drop l.part-index l.parts)))
    ≡ string_bytes l.initial.out ++ lines_text (map OfPart (map part_in l.parts))
