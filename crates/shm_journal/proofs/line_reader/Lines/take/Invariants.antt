use Rattle.shm_journal.specs.LinesOf.{left_of}
use Rattle.shm_journal.proofs.Gathering.{Gathered}
use Rattle.shm_journal.proofs.line_reader.Lines.take.Given as goal

-- the line so far was taken, and lies in its copy
abbrev pub invariant-reads : goal.invariant-reads
invariant-reads g l = Gathered (left_of l.fn.self (g.R.Read.remaining l.fn.reader)) l.fn.self.whole l.self (g.R.Read.remaining l.reader)
