use Rattle.shm_batches.proofs.EntryLemmas.{Entered}
use Rattle.shm_batches.proofs.chain.entries_at_end.Given as goal

abbrev pub invariant-lines : goal.invariant-lines
invariant-lines l = Entered l.fn.text l.from l.at l.counter
