use Rattle.std.proofs.Common.{arith}
use Rattle.std.proofs.lemmas.Grind.{common_steps}
use Rattle.shm_manager.proofs.Starts.{added}
use Rattle.shm_manager.proofs.book.Book.cleared.Goals as goal

pub returns-clause-row : goal.returns-clause-row
returns-clause-row g c = grind (arith, common_steps, added c.args.self.now.cleared c.insert.new.self c.args.from c.insert.ensures)
