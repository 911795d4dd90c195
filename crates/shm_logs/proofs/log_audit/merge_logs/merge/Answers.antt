use Rattle.std.proofs.Common.{◌∙◌, ◌+◌, ◌<◌, ◌≤◌, length, arith, refl}
use Rattle.std.proofs.lemmas.List.{length-map, length-set}
use Rattle.shm_logs.specs.Boxes.SiteLog.{steps_of}
use Rattle.shm_logs.specs.Auditing.Logs.{logs_of}
use Rattle.shm_logs.specs.Auditing.Order.{order_of}
use Rattle.shm_logs.specs.declared.log_audit.step_id.StepName.{StepName}
use Rattle.shm_logs.proofs.Audits.Merged.{all-merged, fewer-left, merged-with, named-with}
use Rattle.shm_logs.proofs.log_audit.merge_logs.merge.Goals as goal

pub steps-smaller : goal.steps-smaller
steps-smaller g c =
    let least = c.in-Some.ensures.least in
    let head = c.in-Some.head in
    let within : head.site < length c.steps.heads = omega (arith, least.below) in
    fewer-left (logs_of c.args.logs.now) c.steps.heads head.site head.index least.left.step within least.left.at least.left.there

pub steps-preserved : goal.steps-preserved
steps-preserved g c =
    let logs = c.args.logs.now in
    let heads = c.steps.heads in
    let head = c.in-Some.head in
    let name : StepName = record { site = head.site; index = head.index } in
    let few : length (logs_of logs) ≤ length logs = omega (arith, length-map logs steps_of) in
    let room : length logs ≤ length heads = omega arith in
    record {
      merged = merged-with (logs_of logs) heads (length logs) c.steps.names.items c.push.new.self.items head name room few c.requires.rise c.steps.invariant.merged
          c.in-Some.ensures.least refl refl c.in_ok-push.ensures.items;
      named = named-with (logs_of logs) heads (length logs) c.steps.names.items c.push.new.self.items head name c.steps.invariant.named
          c.in-Some.ensures.least refl refl c.in_ok-push.ensures.items;
      sites = length-set heads head.site (head.index + 1) ∙ c.steps.invariant.sites;
    }

pub returns-clause-merged : goal.returns-clause-merged
returns-clause-merged g c =
    let logs = c.args.logs.now in
    let few : length (logs_of logs) ≤ length logs = omega (arith, length-map logs steps_of) in
    all-merged (logs_of logs) c.steps.heads (length logs) (order_of (logs_of logs) c.steps.names.items) few c.steps.invariant.merged c.in_default.ensures.least
