-- One more step has its line.
use Rattle.std.proofs.Common.{string_bytes}
use Rattle.shm_report.proofs.Pushed.{step_told}
use Rattle.shm_report.proofs.log_lines.log_text.Goals as goal

pub steps-preserved : goal.steps-preserved
steps-preserved c =
    step_told
    c.site-me.result c.steps.index c.steps-all.result.now c.index-all-index.result (string_bytes c.steps.text) (string_bytes c.push_step.new.text)
    c.steps-test.true c.index-all-index.is c.steps.invariant c.in_ok-push_step.ensures
