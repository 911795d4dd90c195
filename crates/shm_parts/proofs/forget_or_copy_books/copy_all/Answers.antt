use Rattle.shm_parts.proofs.BookSteps.{viewed-clones}
use Rattle.shm_parts.proofs.forget_or_copy_books.copy_all.Goals as goal

pub returns : goal.returns
returns g c = viewed-clones c.args.books.now.entries c.in_ok-copy.copy.entries c.in_ok-copy.ensures.cases
