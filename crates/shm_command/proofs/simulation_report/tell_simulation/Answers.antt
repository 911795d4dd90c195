-- Where the scripts have no folder nothing is done.
use Rattle.std.proofs.Common.{◌∙◌, inr, sym}
use Rattle.shm_command.proofs.Streaming.{did_nothing}
use Rattle.shm_command.proofs.simulation_report.tell_simulation.Goals as goal

pub returns-in-Err-clause-simulated : goal.returns-in-Err-clause-simulated
returns-in-Err-clause-simulated g c = record {
  told = λ is. absurd (let bad = sym c.logs_fault.ensures ∙ is in cc);
  failed = λ failed. inr (c.logs_fault.ensures, did_nothing (g.I.Read.remaining c.args.reader.now) (g.O.Write.contents c.args.out.now));
}
