use Rattle.std.proofs.Common.{◌≡◌, ap, sym, ◌∙◌, arith}
use Rattle.shm_model.specs.Log.{log_of}
use Rattle.shm_logs.specs.Auditing.Logs.{logs_of}
use Rattle.shm_logs.proofs.Audits.Lookups.{log-here}
use Rattle.shm_audit.proofs.Clocked.{clock_mapped}
use Rattle.shm_audit.specs.Missing.{has_clock}
use Rattle.shm_audit.proofs.find_missing_step.has_clock.Goals as goal

pub returns-in-Some : goal.returns-in-Some
returns-in-Some g c =
    let is : c.site.inside.0 ≡ c.args.site = omega arith in
    c.is_among.ensures ∙ clock_mapped c.steps.result.now c.args.clock
    ∙ ap (λ log. has_clock log c.args.clock) (c.steps.ensures.steps
    ∙ sym (log-here c.args.logs.now c.site.inside.0 c.in-Some.log.now c.in-Some.ensures.lookup.3.0 c.in-Some.ensures.lookup.1))
    ∙ ap (λ s. has_clock (log_of (logs_of c.args.logs.now) s) c.args.clock) is
