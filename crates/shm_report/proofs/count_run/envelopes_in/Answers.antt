-- What one more log sent.
use Rattle.std.proofs.Common.{◌≡◌, ◌+◌, ◌≤◌, ap, arith, map, take}
use Rattle.std.specs.List.{sum_by}
use Rattle.shm_logs.proofs.Audits.Prefixes.{sum-more, sum-within}
use Rattle.shm_logs.specs.Auditing.Logs.{logs_of}
use Rattle.shm_logs.specs.Boxes.Logged.{logged_of}
use Rattle.shm_logs.specs.Boxes.SiteLog.{steps_of}
use Rattle.shm_model.specs.Log.{sent_by}
use Rattle.shm_report.proofs.count_run.envelopes_in.Goals as goal

pub logs-preserved : goal.logs-preserved
logs-preserved c =
    let logs = c.args.logs.now in
    let log = c.log-item.result in
    let more : sum_by sent_by (take (c.logs.log-index + 1) (logs_of logs)) ≡ sum_by sent_by (take c.logs.log-index (logs_of logs)) + sent_by (steps_of log) =
    sum-more sent_by steps_of logs c.logs.log-index log c.logs-test.true c.log-item.is in
    let steps : sent_by (map logged_of c.steps.result.now) ≡ sent_by (steps_of log) = ap sent_by c.steps.ensures.steps in
    omega (arith, c.in-Some.ensures.count)

pub returns-in-None-clause-none : goal.returns-in-None-clause-none
returns-in-None-clause-none c =
    let logs = c.args.logs.now in
    let log = c.log-item.result in
    let within : sum_by sent_by (take c.logs.log-index (logs_of logs)) + sent_by (steps_of log) ≤ sum_by sent_by (logs_of logs) =
    sum-within sent_by steps_of logs c.logs.log-index log c.logs-test.true c.log-item.is in
    let steps : sent_by (map logged_of c.steps.result.now) ≡ sent_by (steps_of log) = ap sent_by c.steps.ensures.steps in
    omega (arith, c.in-None.ensures.none, c.logs.invariant, within, steps)
