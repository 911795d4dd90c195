use Rattle.shm_process.specs.Desk.{on_bytes}
use Rattle.shm_process.specs.DeskOf.{desk_of}
use Rattle.shm_process.proofs.DeskBytes.{one_more}
use Rattle.shm_process.proofs.desk.Desk.take.Goals as goal

pub lines-preserved : goal.lines-preserved
lines-preserved g c =
    one_more (desk_of c.lines.self) (desk_of c.end_line.new.self) (on_bytes (desk_of c.args.self.now) c.args.bytes.now)
    c.lines.rest.now c.in-Some.front.now c.in-Some.behind.now c.in-Some.ensures.cut c.in_ok-end_line.ensures c.lines.invariant
