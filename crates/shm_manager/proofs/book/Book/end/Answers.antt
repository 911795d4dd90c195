use Rattle.std.proofs.Common.{rules}
use Rattle.shm_manager.proofs.Starts.{added}
use Rattle.shm_manager.proofs.book.Book.end.Goals as goal

pub returns-then-ne : goal.returns-then-ne
returns-then-ne g c = rw (added c.args.self.now.copies c.insert.new.self c.args.requester c.insert.ensures) (search rules)
