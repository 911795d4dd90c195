use Rattle.std.proofs.Common.{◌≡◌, None, is_some, length}
use Rattle.shm_process.specs.Desk.{disagreement_in}
use Rattle.shm_process.specs.DeskOf.{desk_of}
use Rattle.shm_journal.proofs.ServingLemmas.{Serves}
use Rattle.shm_journal.specs.Acts.{around}
use Rattle.shm_journal.specs.Warning.{Warns}
use Rattle.shm_journal.proofs.process_loop.serve.Given as goal

abbrev pub invariant-reads : goal.invariant-reads
invariant-reads g l = record {
  serves : Serves (desk_of l.fn.desk) (around (g.R.Read.remaining l.fn.reader) (g.W.Write.contents l.fn.writer) (g.J.Journal.acts l.fn.journal))
      (around (g.R.Read.remaining l.reader) (g.W.Write.contents l.writer) (g.J.Journal.acts l.journal)) (desk_of l.desk);
  sound : (desk_of l.fn.desk).later ≡ None → (desk_of l.desk).later ≡ None;
  room : length l.chunk ≡ 8192;
  warns : Warns (g.E.Write.contents l.fn.errors) (g.E.Write.contents l.errors) (disagreement_in (desk_of l.desk));
  warned : l.warned ≡ is_some (disagreement_in (desk_of l.desk));
}
