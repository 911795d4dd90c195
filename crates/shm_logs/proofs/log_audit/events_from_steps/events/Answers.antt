-- Each step's event is that of the order, since the table numbers the order's envelopes.
use Rattle.std.proofs.Common.{◌≡◌, ◌+◌, ◌<◌, ◌≤◌, ◌++◌, ◌∷◌, [], get_or, length, take, arith, ap, subst, sym}
use Rattle.std.proofs.lemmas.List.{length-map}
use Rattle.shm_logs.specs.Boxes.Logged.{logged_of}
use Rattle.shm_model.specs.Log.{Logged, Matches, log_of}
use Rattle.shm_model.specs.Merge.{SiteStep, event_of, events_in}
use Rattle.shm_model.specs.Basics.{max_sent}
use Rattle.shm_logs.specs.Auditing.Logs.{logs_of}
use Rattle.shm_logs.specs.Auditing.Numbering.{sent_in}
use Rattle.shm_logs.specs.Auditing.Order.{order_of, no_step, step_named}
use Rattle.shm_logs.proofs.Audits.Deliveries.{number-fits}
use Rattle.shm_logs.proofs.Audits.Names.{named-at}
use Rattle.shm_logs.proofs.Audits.Numbers.{merged-sends}
use Rattle.shm_logs.proofs.Audits.Prefixes.{made, pushed-same, same-at, take-push}
use Rattle.shm_logs.proofs.log_audit.events_from_steps.events.Goals as goal

pub new-requires-clause-few : goal.new-requires-clause-few
new-requires-clause-few g c =
    let logs = logs_of c.args.logs.now in
    omega (arith, merged-sends logs (order_of logs c.args.order.now) c.requires.merged)

pub event_of-event-requires : goal.event_of-event-requires
event_of-event-requires g c =
    let logs = logs_of c.args.logs.now in
    let order = order_of logs c.args.order.now in
    let name = c.name-item.result in
    let l = logged_of c.step.result.now in
    let few : sent_in order ≤ max_sent = omega (arith, merged-sends logs order c.requires.merged) in
    let named = named-at logs c.args.order.now c.names.name-index name c.requires.named c.names-test.true c.name-item.is in
    let there : l ≡ get_or (log_of logs name.site) name.index no_step = ap (λ (p : SiteStep). p.logged) c.step.ensures in
    let matches = subst (λ (m : Logged). Matches logs m m.input) (sym there) (c.requires.matching name.site name.index no_step named) in
    number-fits logs order c.in_ok-numbering.numbering c.in_ok-numbering.ensures few c.requires.few l l.input matches

pub names-preserved : goal.names-preserved
names-preserved g c =
    let logs = logs_of c.args.logs.now in
    let names = c.args.order.now in
    let order = order_of logs names in
    let i = c.names.name-index in
    let name = c.name-item.result in
    let p = step_named logs name in
    let event = λ (q : SiteStep). event_of order q.site q.logged.source q.logged.input in
    let below : i < length order = omega (arith, length-map names (step_named logs)) in
    let more : take (i + 1) (events_in order) ≡ take i (events_in order) ++ event p ∷ [] =
    take-push event order i p below (sym (made (step_named logs) names i name c.names-test.true c.name-item.is)) in
    let own : SiteStep = record { site = name.site; logged = logged_of c.step.result.now } in
    let told = same-at event c.event_of-event.result own p (c.event_of-event.ensures order c.in_ok-numbering.ensures) c.step.ensures in
    pushed-same c.push.new.self.items c.names.events.items (take i (events_in order)) (take (i + 1) (events_in order)) c.event_of-event.result (event p)
    c.in_ok-push.ensures.items c.names.invariant told more
