use Rattle.std.proofs.Common.{arith}
use Rattle.shm_logs.proofs.Audits.MarkLemmas.{push-unmarked}
use Rattle.shm_logs.proofs.log_audit.receipt_marks.Marks.new.Goals as goal

pub logs-preserved : goal.logs-preserved
logs-preserved g c = record {
  rows = push-unmarked c.logs.rows.items c.push_reserved.new.self.items c.in_ok-row.row c.args.logs.now c.logs.log-index c.len.result c.log-item.result
      c.logs.invariant.rows c.push_reserved.ensures.items c.logs-test.true c.log-item.is (c.in_ok-row.ensures.items_if_clones_equal (λ y h. h)) c.len.ensures;
  room = omega (arith, c.push_reserved.ensures.capacity, c.logs.invariant.room);
}
