use Rattle.std.proofs.Common.{arith}
use Rattle.std.proofs.lemmas.Result.{MatchResult-from_err}
use Rattle.shm_model.specs.World as model
use Rattle.shm_site.proofs.Steps.{on_err}
use Rattle.shm_world.proofs.Loads.{led-along, led-partway}
use Rattle.shm_world.proofs.Runs.{ran-all, ran-more, ran-none, ran-some, stops-here}
use Rattle.shm_world.proofs.world.World.run.Goals as goal

pub events-init : goal.events-init
events-init g c = record {
  ran = λ w stands. ran-none _ _ _ w c.args.events.now stands c.reserve.ensures.items;
  room = omega (arith, c.in_ok-reserve.ensures.ok);
}

pub returns-in_err-answer-clause-part : goal.returns-in_err-answer-clause-part
returns-in_err-answer-clause-part g c = λ w stands.
    let ran = c.events.invariant.ran w stands in
    ran-some c.from_residual-in_err-answer.result _ _ _ _ w c.args.events.now c.events.event-index c.events-test.true ran
    (c.in_err-answer.ensures.refused _ ran.stands)

pub returns-in_err-answer-clause-memory : goal.returns-in_err-answer-clause-memory
returns-in_err-answer-clause-memory g c = λ w stands room.
    let ran = c.events.invariant.ran w stands in
    on_err c.from_residual-in_err-answer.result
    (stops-here c.events.self c.args.out.now.items c.events.out.items w c.args.events.now c.events.event-index c.event-item.result c.events-test.true c.event-item.is ran
    (c.in_err-answer.ensures.memory _ ran.stands))

pub returns-in_err-answer-clause-headline : goal.returns-in_err-answer-clause-headline
returns-in_err-answer-clause-headline g c = λ o before stands.
    let ran = c.events.invariant.ran (model.run o before).world stands in
    MatchResult-from_err c.from_residual-in_err-answer.result _ _ c.from_residual-in_err-answer.ensures.0
    (λ e. led-partway c.every_run_keeps_the_promise.ensures c.events.self c.apply.new.self c.args.out.now.items c.events.out.items o before c.args.events.now c.events.event-index
    c.events-test.true ran (c.in_err-answer.ensures.refused _ ran.stands))

pub push_reserved-requires : goal.push_reserved-requires
push_reserved-requires g c = omega (arith, c.events.invariant.room, c.events-test.true)

pub events-preserved : goal.events-preserved
events-preserved g c = record {
  ran = λ w stands.
      let ran = c.events.invariant.ran w stands in
      ran-more c.events.self c.apply.new.self c.args.out.now.items c.events.out.items c.push_reserved.new.self.items c.in_ok-answer.answer w c.args.events.now
      c.events.event-index c.event-item.result c.events-test.true c.event-item.is c.push_reserved.ensures.items ran (c.in_ok-answer.ensures.next _ ran.stands);
  room = omega (arith, c.events.invariant.room, c.push_reserved.ensures.len, c.push_reserved.ensures.capacity);
}

pub returns-clause-whole : goal.returns-clause-whole
returns-clause-whole g c = λ w stands.
    let all = ran-all _ _ _ w c.args.events.now c.events.event-index c.events-test.false (c.events.invariant.ran w stands) in
    (all.stands, all.answered)

pub returns-clause-headline : goal.returns-clause-headline
returns-clause-headline g c = λ o before stands.
    led-along c.every_run_keeps_the_promise.ensures c.events.self c.args.out.now.items c.events.out.items o before c.args.events.now
    (ran-all _ _ _ (model.run o before).world c.args.events.now c.events.event-index c.events-test.false (c.events.invariant.ran (model.run o before).world stands))
