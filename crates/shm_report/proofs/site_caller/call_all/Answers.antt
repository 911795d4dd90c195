-- One more access is made.
use Rattle.shm_report.proofs.Calls.{one_call}
use Rattle.shm_report.proofs.site_caller.call_all.Goals as goal

pub accesses-preserved : goal.accesses-preserved
accesses-preserved g c =
    one_call
    c.args.client.now.post.now.number c.args.accesses.now c.accesses.place c.index-accesses-place.result c.accesses.receipts.items c.add.new.receipts.items
    c.accesses-test.true c.index-accesses-place.is c.accesses.invariant c.in-Ok.ensures
