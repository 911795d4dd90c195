use Rattle.shm_batches.specs.Extent.{Measured}
use Rattle.shm_journal.specs.LinesOf.{Unended}
use Rattle.shm_batches.specs.Section.{open_in}
use Rattle.shm_batches.proofs.front.measure.Given as goal

abbrev pub invariant-lines : goal.invariant-lines
invariant-lines g l = Measured l.front (g.B.Read.remaining l.fn.reader) (g.B.Read.remaining l.reader) × Unended (open_in l.front.section)
