use Rattle.std.proofs.Common.{map}
use Rattle.shm_logs.specs.Boxes.Logged.{logged_of}
use Rattle.shm_audit.proofs.Counted.{log_counted}
use Rattle.shm_audit.proofs.count_totals.count.Goals as goal

pub logs-preserved : goal.logs-preserved
logs-preserved g c =
    log_counted c.logs.counts c.in-Some.more c.args.logs.now c.logs.log-index c.log-item.result (map logged_of c.steps.result.now) c.logs-test.true c.log-item.is
    c.logs.invariant c.steps.ensures.steps c.in-Some.ensures
