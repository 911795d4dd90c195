use Rattle.std.proofs.Common.{arith, refl, sym, ◌∙◌, ◌<◌, length}
use Rattle.shm_simulate.proofs.OutcomeLemmas.{came-again, came-first}
use Rattle.shm_simulate.proofs.outcome.add.Goals as goal

pub returns-in-Some : goal.returns-in-Some
returns-in-Some c = λ givens schedules had long scheduled.
    let few : length givens < 4294967295 = omega arith in
    came-again givens schedules c.args.outcomes.now.items c.count_one.new.outcomes.items _ c.args.events.items had c.in-Some.place
    (rw c.as_slice.ensures.value at c.in-Some.ensures.below) (rw c.as_slice.ensures.value at c.in-Some.ensures.found) c.count_one.ensures few

pub returns-in_ok-push-in-None : goal.returns-in_ok-push-in-None
returns-in_ok-push-in-None c = λ givens schedules had long scheduled.
    came-first givens schedules c.args.outcomes.now.items c.push.new.self.items _ c.args.events.items had _
    (rw c.as_slice.ensures.value at c.in-None.ensures.missing) c.in_ok-given-in-None.ensures refl long scheduled refl c.in_ok-push-in-None.ensures.items
