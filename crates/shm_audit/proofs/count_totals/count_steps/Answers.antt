use Rattle.shm_audit.proofs.Counted.{step_counted}
use Rattle.shm_audit.proofs.count_totals.count_steps.Goals as goal

pub steps-preserved : goal.steps-preserved
steps-preserved g c =
    step_counted c.args.before c.steps.counts c.in-Some.more c.args.steps.now c.steps.step-index c.step-item.result c.steps-test.true c.step-item.is
    c.steps.invariant c.in-Some.ensures
