-- What one more step sent.
use Rattle.std.proofs.Common.{◌≡◌, ◌+◌, ◌≤◌, arith, length, map, take}
use Rattle.std.proofs.lemmas.List.{length-map}
use Rattle.shm_logs.proofs.Audits.Prefixes.{sum-more, sum-within}
use Rattle.shm_logs.specs.Boxes.Logged.{logged_of}
use Rattle.shm_model.specs.Log.{Logged, sent_by}
use Rattle.shm_report.proofs.count_run.add_sent.Goals as goal

pub steps-preserved : goal.steps-preserved
steps-preserved c =
    let steps = c.args.steps.now in
    let step = c.step-item.result in
    let more : sent_by (take (c.steps.step-index + 1) (map logged_of steps)) ≡ sent_by (take c.steps.step-index (map logged_of steps)) + length (logged_of step).sent =
    sum-more (λ (l : Logged). length l.sent) logged_of steps c.steps.step-index step c.steps-test.true c.step-item.is in
    let size : length (logged_of step).sent ≡ length step.sent.items = length-map step.sent.items _ in
    omega (arith, c.len.ensures, c.in-Some.ensures)

pub returns-in-None-clause-none : goal.returns-in-None-clause-none
returns-in-None-clause-none c =
    let steps = c.args.steps.now in
    let step = c.step-item.result in
    let within : sent_by (take c.steps.step-index (map logged_of steps)) + length (logged_of step).sent ≤ sent_by (map logged_of steps) =
    sum-within (λ (l : Logged). length l.sent) logged_of steps c.steps.step-index step c.steps-test.true c.step-item.is in
    let size : length (logged_of step).sent ≡ length step.sent.items = length-map step.sent.items _ in
    omega (arith, c.len.ensures, c.in-None.ensures, c.steps.invariant, within, size)
