use Rattle.shm_command.proofs.Untold.{unread_untold}
use Rattle.shm_command.proofs.journal_summary.read_file.Goals as goal

pub returns-clause-ok : goal.returns-clause-ok
returns-clause-ok g c = let summed = c.in-Ok-read_summary.ensures.summed in (summed.0, summed.2)

pub returns-in-Err-read_summary-clause-err : goal.returns-in-Err-read_summary-clause-err
returns-in-Err-read_summary-clause-err g c = unread_untold _ 0 c.in-Err-read_summary.fault c.in-Err-read_summary.ensures.summed
