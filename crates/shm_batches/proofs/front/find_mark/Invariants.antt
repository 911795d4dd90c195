use Rattle.shm_batches.specs.Extent.{Seeks}
use Rattle.shm_batches.proofs.front.find_mark.Given as goal

abbrev pub invariant-lines : goal.invariant-lines
invariant-lines g l = Seeks l.section (g.B.Read.remaining l.fn.reader) (g.B.Read.remaining l.reader)
