use Rattle.std.proofs.Common.{arith}
use Rattle.shm_stepped.proofs.Waits.{answered-kept, kept-on, spent, without-memory}
use Rattle.shm_stepped.proofs.waiting_access.access_until_done.Goals as goal

pub returns-in_default-clause-stopped : goal.returns-in_default-clause-stopped
returns-in_default-clause-stopped g c =
    without-memory c.args.world.now c.events.world c.step.new.self c.args.site c.args.asked c.events.wait c.events._made c.args.budget c.choose-choice.result
    c.events.invariant c.events-test.true c.choose-choice.ensures c.in_default.ensures.refused c.in_default.ensures.memory

pub returns-then-ended-clause-answered : goal.returns-then-ended-clause-answered
returns-then-ended-clause-answered g c =
    answered-kept c.args.world.now c.events.world c.step.new.self c.args.site c.args.asked c.events.wait c.after-wait.result c.events._made c.sites.result
    c.choose-choice.result c.in-Ok.answer c.answers-ended.result c.events.invariant c.choose-choice.ensures c.in-Ok.ensures.next c.answers-ended.ensures
    c.after-wait.ensures.is c.if-ended.true c.in-Ok.ensures.headline

pub events-preserved : goal.events-preserved
events-preserved g c =
    kept-on c.args.world.now c.events.world c.step.new.self c.args.site c.args.asked c.events.wait c.after-wait.result c.events._made c.sites.result
    c.choose-choice.result c.in-Ok.answer c.answers-ended.result c.events.invariant c.choose-choice.ensures c.in-Ok.ensures.next c.answers-ended.ensures
    c.after-wait.ensures.is c.if-ended.false c.sites.ensures c.after-wait.ensures.sum c.after-wait.ensures.events

pub returns-clause-stopped : goal.returns-clause-stopped
returns-clause-stopped g c =
    spent c.args.world.now c.events.world c.args.site c.args.asked c.events.wait c.events._made c.args.budget c.events.invariant
    (omega (arith, c.events-test.false, c.events.auto._made-end))
