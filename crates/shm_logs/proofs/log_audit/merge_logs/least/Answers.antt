-- One log more.
use Rattle.std.proofs.Common.{◌≡◌, ◌<◌, ◌-◌, ◌^◌, length, arith, subst}
use Rattle.shm_logs.specs.Boxes.SiteLog.{steps_of}
use Rattle.shm_logs.specs.Auditing.Heads.{IsLeastIf}
use Rattle.shm_logs.specs.Auditing.Logs.{logs_of}
use Rattle.shm_logs.specs.declared.log_audit.merge_logs.Head.{Head}
use Rattle.shm_logs.proofs.Audits.Least.{has-lesser, least-with}
use Rattle.shm_logs.proofs.Audits.Names.{log-there}
use Rattle.shm_logs.proofs.log_audit.merge_logs.least.Goals as goal

pub logs-preserved : goal.logs-preserved
logs-preserved g c =
    let logs = c.args.logs.now in
    let s = c.logs.site in
    let log = c.index-logs-site.result in
    record {
      least = least-with (logs_of logs) c.args.heads.now s (steps_of log) c.logs.least c.first.result c.lesser-least.result
          (log-there logs s log c.logs-test.true c.index-logs-site.is) c.logs.invariant.least c.first.ensures.step c.lesser-least.ensures;
      below = has-lesser (λ (head : Head). head.index < 2 ^ 64 - 1) c.logs.least c.first.result c.lesser-least.result
          c.lesser-least.ensures c.logs.invariant.below c.first.ensures.below;
    }

pub returns-clause-least : goal.returns-clause-least
returns-clause-least g c =
    let all : c.logs.site ≡ length c.args.logs.now = omega arith in
    subst (λ n. IsLeastIf (logs_of c.args.logs.now) c.args.heads.now n c.logs.least) all c.logs.invariant.least
