use Rattle.std.proofs.lemmas.Result.{on_ok_weaker}
use Rattle.shm_command.proofs.shorten_journal.shorten_and_tell.Goals as goal

pub returns-in-Ok-clause-told : goal.returns-in-Ok-clause-told
returns-in-Ok-clause-told g c = on_ok_weaker c.tell.result (λ told. (c.in-Ok.shorter, told)) c.tell.ensures.told
