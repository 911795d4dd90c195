use Rattle.std.proofs.Common.{◌≡◌, ◌∙◌, ◌+◌, ◌<◌, ◌++◌, ◌∷◌, [], length, map, take, arith, ap, slice_set, subst, sym}
use Rattle.std.proofs.lemmas.List.{length-map, length-set, take_all}
use Rattle.shm_model.specs.Merge.{SiteStep}
use Rattle.shm_parts.specs.Message.{envelope_of}
use Rattle.shm_logs.specs.Auditing.Logs.{logs_of}
use Rattle.shm_logs.specs.Auditing.Numbering.{sent_in}
use Rattle.shm_logs.specs.Auditing.Order.{order_of, step_named}
use Rattle.shm_logs.specs.Auditing.Rows.{rows_of}
use Rattle.shm_logs.specs.declared.log_audit.step_id.StepName.{StepName}
use Rattle.shm_logs.proofs.Audits.Names.{named-at, site-there}
use Rattle.shm_logs.proofs.Audits.Numbers.{has-numbers, rows-pushed, HasRows}
use Rattle.shm_logs.proofs.Audits.Prefixes.{sum-more, take-push}
use Rattle.shm_logs.proofs.log_audit.envelope_numbering.Numbering.new.Goals as goal

pub names-preserved : goal.names-preserved
names-preserved g c =
    let logs = logs_of c.args.logs.now in
    let names = c.args.order.now in
    let order = order_of logs names in
    let i = c.names.name-index in
    let name = c.name-item.result in
    let s = c.name.inside.0.0.0 in
    let before = c.names.before.items in
    let named = named-at logs names i name c.requires.named c.names-test.true c.name-item.is in
    let at : s ≡ name.site = ap (λ (n : StepName). n.site) c.name.view_is in
    let below : s < length before = omega (arith, site-there c.args.logs.now name.site name.index named) in
    let more : take (i + 1) order ≡ take i order ++ step_named logs name ∷ [] = take-push (step_named logs) names i name c.names-test.true c.name-item.is in
    let rows = rows-pushed before c.index_mut.result.now c.push.new.self (take i order) (step_named logs name) s c.names.total at
    below c.index_mut.ensures.value c.in_ok-push.ensures.items c.names.invariant.total c.names.invariant.rows in
    let sum : sent_in (take (i + 1) order) ≡ sent_in (take i order) + length (step_named logs name).logged.sent =
    sum-more (λ (p : SiteStep). length p.logged.sent) (step_named logs) names i name c.names-test.true c.name-item.is in
    let size : length (map envelope_of c.step.result.now.sent.items) ≡ length (step_named logs name).logged.sent =
    ap (λ (p : SiteStep). length p.logged.sent) c.step.ensures ∙ ap (λ (n : StepName). length (step_named logs n).logged.sent) c.name.view_is in
    record {
      rows = subst (HasRows (rows_of (slice_set before s c.push.new.self))) (sym more) rows;
      total = omega (arith, length-map c.step.result.now.sent.items envelope_of, c.len.ensures);
      count = length-set before s c.push.new.self ∙ c.names.invariant.count;
    }

pub returns : goal.returns
returns g c =
    let order = order_of (logs_of c.args.logs.now) c.args.order.now in
    let i = c.names.name-index in
    let all : take i order ≡ order = take_all i order (omega (arith, length-map c.args.order.now (step_named (logs_of c.args.logs.now)))) in
    has-numbers (rows_of c.names.before.items) c.names.total (take i order) order all c.names.invariant.rows c.names.invariant.total
