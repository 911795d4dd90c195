use Rattle.std.proofs.Common.{◌≡◌, ap, sym, ◌∙◌, slice_get, arith}
use Rattle.shm_logs.specs.Boxes.Logged.{logged_of}
use Rattle.shm_model.specs.Log.{log_of}
use Rattle.shm_logs.specs.Auditing.Logs.{logs_of}
use Rattle.shm_logs.proofs.Audits.Lookups.{log-here, seen-at}
use Rattle.shm_audit.proofs.find_missing_step.step_at.Goals as goal

pub returns-in-Some : goal.returns-in-Some
returns-in-Some g c =
    let is : c.site.inside.0 ≡ c.args.site = omega arith in
    seen-at logged_of c.steps.result.now c.args.index c.get-in-Some.result c.get-in-Some.ensures.lookup
    ∙ ap (λ log. slice_get log c.args.index) (c.steps.ensures.steps
    ∙ sym (log-here c.args.logs.now c.site.inside.0 c.in-Some.log.now c.in-Some.ensures.lookup.3.0 c.in-Some.ensures.lookup.1))
    ∙ ap (λ s. slice_get (log_of (logs_of c.args.logs.now) s) c.args.index) is
