-- What is told of the runs is told of the workload that was read.
use Rattle.shm_report.specs.Report.{whole_of}
use Rattle.shm_command.proofs.SimulationLemmas.{cuts, simulated, IsTallyOf}
use Rattle.std.proofs.Common.{◌≡◌}
use Rattle.shm_command.proofs.simulation_report.simulate_read.Goals as goal

pub returns-in-Ok-simulate-clause-told : goal.returns-in-Ok-simulate-clause-told
returns-in-Ok-simulate-clause-told g c =
    let known = g.I.Read.remaining c.args.reader.now in
    let of : IsTallyOf c.args.asked.now known c.in-Ok-simulate.tally =
    record { workload = whole_of c.in-Ok.workload; read = c.in-Ok.ensures.read; is = c.in-Ok-simulate.ensures } in
    simulated c.tell_tally.result c.args.asked.now known (g.O.Write.contents c.args.out.now) (g.O.Write.contents c.tell_tally.new.out)
    c.in-Ok-simulate.tally of c.tell_tally.ensures.told

pub returns-in-Ok-simulate-clause-cut : goal.returns-in-Ok-simulate-clause-cut
returns-in-Ok-simulate-clause-cut g c =
    let known = g.I.Read.remaining c.args.reader.now in
    let of : IsTallyOf c.args.asked.now known c.in-Ok-simulate.tally =
    record { workload = whole_of c.in-Ok.workload; read = c.in-Ok.ensures.read; is = c.in-Ok-simulate.ensures } in
    cuts c.tell_tally.result c.args.asked.now known (g.O.Write.contents c.args.out.now) (g.O.Write.contents c.tell_tally.new.out)
    c.in-Ok-simulate.tally (c.tell_tally.new.out ≡ c.args.out.now) of c.tell_tally.ensures.cut
