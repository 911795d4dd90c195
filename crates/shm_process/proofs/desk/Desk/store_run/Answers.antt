use Rattle.std.proofs.Common.{◌≤◌, arith}
use Rattle.std.proofs.lemmas.Result.{on_ok_weaker}
use Rattle.shm_model.specs.Basics.{greatest}
use Rattle.shm_wire.specs.UnmapOf.{unmap_in}
use Rattle.shm_process.specs.DeskOf.{desk_of}
use Rattle.shm_process.specs.NodeOf.{node_of}
use Rattle.shm_process.proofs.FurtherBrought.{made_brought}
use Rattle.shm_process.proofs.desk.Desk.store_run.Goals as goal

pub returns-then-may_bring : goal.returns-then-may_bring
returns-then-may_bring g c =
    let d = desk_of c.args.self.now in
    let sent : d.counts.sent ≤ greatest = omega (arith, c.envelopes_sent-sent.ensures, c.envelopes_sent-sent.type_inv) in
    let taken : d.node.taken ≤ greatest = omega (arith, c.lines_taken-taken.ensures, c.lines_taken-taken.type_inv) in
    on_ok_weaker c.store_brought.result
    (made_brought c.args.bytes.now d (unmap_in c.args.ask.now) c.args.offset (node_of c.store_brought.new.self) (c.may_bring.ensures c.if-may_bring.true) sent taken)
    c.store_brought.ensures
