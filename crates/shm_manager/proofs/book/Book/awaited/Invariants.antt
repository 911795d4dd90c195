use Rattle.shm_manager.specs.Book.{book_of, run_of}
use Rattle.shm_manager.proofs.Members.{Gathered}
use Rattle.shm_manager.proofs.book.Book.awaited.Given as goal

abbrev pub invariant-sites : goal.invariant-sites
invariant-sites g l = Gathered (book_of l.self) (run_of l.kind l.requester) l.site l.missing
