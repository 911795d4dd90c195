use Rattle.std.proofs.Common.{◌≡◌, ◌+◌, ◌≤◌, length, map, take, arith}
use Rattle.std.proofs.lemmas.List.{length-map}
use Rattle.shm_logs.specs.Boxes.Logged.{logged_of}
use Rattle.shm_model.specs.Log.{Logged, sent_by}
use Rattle.shm_parts.specs.Message.{envelope_of}
use Rattle.shm_logs.proofs.Audits.Prefixes.{sum-more, sum-within}
use Rattle.shm_logs.proofs.log_audit.check_same_sites.left_after.Goals as goal

pub returns-in-None : goal.returns-in-None
returns-in-None g c =
    let steps = c.args.steps.now in
    let step = c.step-item.result in
    let within : sent_by (take c.steps.step-index (map logged_of steps)) + length (map envelope_of step.sent.items) ≤ sent_by (map logged_of steps) =
    sum-within (λ (l : Logged). length l.sent) logged_of steps c.steps.step-index step c.steps-test.true c.step-item.is in
    let size : length (map envelope_of step.sent.items) ≡ length step.sent.items = length-map step.sent.items envelope_of in
    omega (arith, c.len.ensures, c.in-None.ensures)

pub steps-preserved : goal.steps-preserved
steps-preserved g c =
    let steps = c.args.steps.now in
    let step = c.step-item.result in
    let more : sent_by (take (c.steps.step-index + 1) (map logged_of steps)) ≡ sent_by (take c.steps.step-index (map logged_of steps)) + length (map envelope_of step.sent.items) =
    sum-more (λ (l : Logged). length l.sent) logged_of steps c.steps.step-index step c.steps-test.true c.step-item.is in
    let size : length (map envelope_of step.sent.items) ≡ length step.sent.items = length-map step.sent.items envelope_of in
    omega (arith, c.len.ensures, c.in-Some.ensures)
