use Rattle.std.proofs.Common.{take}
use Rattle.std.specs.List.{All}
use Rattle.shm_state.specs.PartOf.{part_in}
use Rattle.shm_state.specs.PartWords.{IsPart}
use Rattle.shm_journal.proofs.spelled_part.have_lines.Given as goal

-- each part so far has a line
abbrev pub invariant-parts : goal.invariant-parts
invariant-parts g l = All (λ part. IsPart (part_in part)) (take l.part-index l.parts)
