-- The name's index is within the log of its site, and the step there is the one that it names.
use Rattle.std.proofs.Common.{◌≡◌, ap, arith, subst, sym}
use Rattle.shm_logs.specs.Boxes.Logged.{logged_of}
use Rattle.shm_model.specs.Merge.{SiteStep}
use Rattle.shm_logs.specs.Auditing.Logs.{logs_of}
use Rattle.shm_logs.specs.Auditing.Order.{Names, no_step, step_named}
use Rattle.shm_logs.specs.declared.log_audit.step_id.StepName.{StepName}
use Rattle.shm_logs.proofs.Audits.Names.{name-there, step-there}
use Rattle.shm_logs.proofs.log_audit.step_id.StepName.step.Goals as goal

pub offset_bounds-steps-self-inside : goal.offset_bounds-steps-self-inside
offset_bounds-steps-self-inside g c =
    let there = name-there c.args.logs.now c.self.inside.0.0.0 c.self.inside.0.1.0 c.index-logs-site.result c.steps-steps.result.now
    (subst (Names (logs_of c.args.logs.now)) (sym c.self.view_is) c.requires) c.index-logs-site.is c.steps-steps.ensures.steps in
    omega (arith, there.below)

pub bounds-steps-self-inside : goal.bounds-steps-self-inside
bounds-steps-self-inside g c =
    let there = name-there c.args.logs.now c.self.inside.0.0.0 c.self.inside.0.1.0 c.index-logs-site.result c.steps-steps.result.now
    (subst (Names (logs_of c.args.logs.now)) (sym c.self.view_is) c.requires) c.index-logs-site.is c.steps-steps.ensures.steps in
    there.below

pub returns : goal.returns
returns g c =
    let there = name-there c.args.logs.now c.self.inside.0.0.0 c.self.inside.0.1.0 c.index-logs-site.result c.steps-steps.result.now
    (subst (Names (logs_of c.args.logs.now)) (sym c.self.view_is) c.requires) c.index-logs-site.is c.steps-steps.ensures.steps in
    let step = step-there c.args.logs.now c.self.inside.0.0.0 c.self.inside.0.1.0 c.steps-steps.result.now c.index-steps-self.result no_step there c.index-steps-self.is in
    subst (λ (name : StepName). ◌≡◌ {A = SiteStep} (record { site = name.site; logged = logged_of c.index-steps-self.result }) (step_named (logs_of c.args.logs.now) name)) c.self.view_is
    (ap (λ l. record { site = c.self.inside.0.0.0; logged = l }) (sym step))
