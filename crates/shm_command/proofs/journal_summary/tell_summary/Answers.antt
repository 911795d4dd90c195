use Rattle.shm_command.proofs.Untold.{summary_told}
use Rattle.shm_command.proofs.journal_summary.tell_summary.Goals as goal

pub returns-in-Ok-clause-told : goal.returns-in-Ok-clause-told
returns-in-Ok-clause-told g c =
    let summed = c.in-Ok.ensures.ok in
    summary_told c.write_summary.result (g.O.Write.contents c.args.out.now) (g.O.Write.contents c.write_summary.new.out) summed.0 c.in-Ok.summary summed.1
    c.write_summary.ensures.told
