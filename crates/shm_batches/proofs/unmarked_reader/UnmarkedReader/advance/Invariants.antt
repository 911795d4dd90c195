use Rattle.std.specs.Io.KnownBytes.{Keeps}
use Rattle.shm_batches.specs.UnmarkedOf.{left_unmarked}
use Rattle.shm_batches.proofs.unmarked_reader.UnmarkedReader.advance.Given as goal

-- nothing is lost
abbrev pub invariant-lines : goal.invariant-lines
invariant-lines g l = Keeps (left_unmarked l.fn.self (g.B.Read.remaining l.fn.self.reader)) (left_unmarked l.self (g.B.Read.remaining l.self.reader))
