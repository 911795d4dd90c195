use Rattle.std.proofs.Common.{sym, arith}
use Rattle.shm_parts.proofs.PendingLemmas.{pending_absent, pending_serves}
use Rattle.shm_parts.proofs.pending_requests.Pendings.serves.Goals as goal

pub returns-then-is_write : goal.returns-then-is_write
returns-then-is_write g c =
    let found = pending_serves c.args.kind c.args.page c.in-Some.pending.now c.args.self.now.pages (sym c.in-Some.ensures) in
    grind (arith, found, c.is_write.ensures, c.if-is_write.true)

pub returns-else-is_write : goal.returns-else-is_write
returns-else-is_write g c =
    let found = pending_serves c.args.kind c.args.page c.in-Some.pending.now c.args.self.now.pages (sym c.in-Some.ensures) in
    grind (arith, found, c.is_write.ensures, c.if-is_write.false, c.is_write-else-is_write.ensures)

pub returns-in-None : goal.returns-in-None
returns-in-None g c = sym (pending_absent c.args.kind c.args.page c.args.self.now.pages (sym c.in-None.ensures))
