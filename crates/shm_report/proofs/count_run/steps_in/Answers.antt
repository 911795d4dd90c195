-- One more log's steps.
use Rattle.std.proofs.Common.{◌≡◌, ◌+◌, ◌≤◌, arith, length, take}
use Rattle.std.specs.List.{sum_by}
use Rattle.shm_logs.proofs.Audits.Prefixes.{sum-more, sum-within}
use Rattle.shm_logs.specs.Auditing.Logs.{logs_of}
use Rattle.shm_logs.specs.Boxes.SiteLog.{steps_of}
use Rattle.shm_report.proofs.count_run.steps_in.Goals as goal

pub logs-preserved : goal.logs-preserved
logs-preserved c =
    let logs = c.args.logs.now in
    let log = c.log-item.result in
    let more : sum_by length (take (c.logs.log-index + 1) (logs_of logs)) ≡ sum_by length (take c.logs.log-index (logs_of logs)) + length (steps_of log) =
    sum-more length steps_of logs c.logs.log-index log c.logs-test.true c.log-item.is in
    omega (arith, c.len.ensures, c.in-Some.ensures)

pub returns-in-None-clause-none : goal.returns-in-None-clause-none
returns-in-None-clause-none c =
    let logs = c.args.logs.now in
    let log = c.log-item.result in
    let within : sum_by length (take c.logs.log-index (logs_of logs)) + length (steps_of log) ≤ sum_by length (logs_of logs) =
    sum-within length steps_of logs c.logs.log-index log c.logs-test.true c.log-item.is in
    omega (arith, c.len.ensures, c.in-None.ensures, c.logs.invariant, within)
