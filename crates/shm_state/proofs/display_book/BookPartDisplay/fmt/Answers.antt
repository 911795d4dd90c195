use Rattle.std.proofs.Common.{rules}
use Rattle.std.proofs.Output.{has_written_of_eq}
use Rattle.shm_state.proofs.BookTexts.{idle_text, read_text, write_text}
use Rattle.shm_state.proofs.display_book.BookPartDisplay.fmt.Goals as goal

pub returns-in-None-clause-writes : goal.returns-in-None-clause-writes
returns-in-None-clause-writes g c = λ p ok. has_written_of_eq _ _ _ _ _ (idle_text c.args.self.now (search rules)) (search rules)

pub returns-in-Some-Read-default-clause-writes : goal.returns-in-Some-Read-default-clause-writes
returns-in-Some-Read-default-clause-writes g c = λ p ok.
    has_written_of_eq _ _ _ _ _ (read_text c.args.self.now c.in-Some-Read-default.requester (search rules)) (search rules)

pub returns-in-Some-Write-default-clause-writes : goal.returns-in-Some-Write-default-clause-writes
returns-in-Some-Write-default-clause-writes g c = λ p ok.
    has_written_of_eq _ _ _ _ _ (write_text c.args.self.now c.in-Some-Write-default.requester (search rules)) (search rules)
