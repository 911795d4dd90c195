use Rattle.std.proofs.Common.{rules}
use Rattle.std.proofs.Output.{has_written_of_eq}
use Rattle.shm_wire.proofs.UnmapTexts.{none_text, read_text, sync_text}
use Rattle.shm_wire.proofs.unmap_ask.UnmapAskDisplay.fmt.Goals as goal

pub returns-in-None-clause-writes : goal.returns-in-None-clause-writes
returns-in-None-clause-writes g c = λ p ok. has_written_of_eq _ _ _ _ _ (none_text c.args.self.now (search rules)) (search rules)

pub returns-in-Some-Read-clause-writes : goal.returns-in-Some-Read-clause-writes
returns-in-Some-Read-clause-writes g c = λ p ok. has_written_of_eq _ _ _ _ _ (read_text c.args.self.now (search rules)) (search rules)

pub returns-in-Some-Write-clause-writes : goal.returns-in-Some-Write-clause-writes
returns-in-Some-Write-clause-writes g c = λ p ok. has_written_of_eq _ _ _ _ _ (sync_text c.args.self.now (search rules)) (search rules)
