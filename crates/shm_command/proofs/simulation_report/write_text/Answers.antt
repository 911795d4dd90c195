-- Where writing fails, a front of the text was written.
use Rattle.std.proofs.Common.{subst}
use Rattle.shm_report.specs.Report.{IsCutShort}
use Rattle.shm_command.proofs.SimulationLemmas.{cut_at, cut_behind}
use Rattle.shm_command.proofs.simulation_report.write_text.Goals as goal

pub returns-in-Err-clause-cut : goal.returns-in-Err-clause-cut
returns-in-Err-clause-cut g c =
    let old = g.O.Write.contents c.args.out.now in
    let new = g.O.Write.contents c.write_whole.new.writer in
    let front = c.in-Err.ensures.err in
    subst (IsCutShort old new) c.as_bytes.ensures.value (cut_at old new c.as_bytes.result.now front.0 front.1)
