-- One more step is a fault or none.
use Rattle.std.proofs.Common.{◌≡◌, ◌+◌, ◌≤◌, arith, cond, map, take}
use Rattle.shm_logs.proofs.Audits.Prefixes.{sum-more, sum-within}
use Rattle.shm_logs.specs.Boxes.Logged.{logged_of}
use Rattle.shm_model.specs.Log.{Logged}
use Rattle.shm_report.specs.Counts.{faults_of, is_fault}
use Rattle.shm_report.proofs.count_run.faults_with.Goals as goal

pub steps-preserved : goal.steps-preserved
steps-preserved c =
    let steps = c.args.steps.now in
    let step = c.step-item.result in
    let more : faults_of (take (c.steps.step-index + 1) (map logged_of steps)) ≡ faults_of (take c.steps.step-index (map logged_of steps)) + cond (is_fault step.answer) 1 0 =
    sum-more (λ (l : Logged). cond (is_fault l.answer) 1 0) logged_of steps c.steps.step-index step c.steps-test.true c.step-item.is in
    omega (arith, c.faults_at.ensures, c.in-Some.ensures)

pub returns-in-None-clause-none : goal.returns-in-None-clause-none
returns-in-None-clause-none c =
    let steps = c.args.steps.now in
    let step = c.step-item.result in
    let within : faults_of (take c.steps.step-index (map logged_of steps)) + cond (is_fault step.answer) 1 0 ≤ faults_of (map logged_of steps) =
    sum-within (λ (l : Logged). cond (is_fault l.answer) 1 0) logged_of steps c.steps.step-index step c.steps-test.true c.step-item.is in
    omega (arith, c.faults_at.ensures, c.in-None.ensures, c.steps.invariant, within)
