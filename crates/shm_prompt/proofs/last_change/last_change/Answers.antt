use Rattle.std.proofs.Common.{◌≡◌, length, arith, subst, sym}
use Rattle.shm_model.specs.Opening.{opening_of}
use Rattle.shm_model.specs.declared.event.Event.{Event}
use Rattle.shm_debug.specs.Standing.{first_events, standing, world_of}
use Rattle.shm_world.specs.World.{StandsFor}
use Rattle.shm_prompt.specs.Undo as undo
use Rattle.shm_prompt.proofs.UndoLemmas.{change-more, world-more}
use Rattle.shm_prompt.proofs.last_change.last_change.Goals as goal

pub events-preserved : goal.events-preserved
events-preserved g c =
    let o = opening_of c.args.opening in
    let events = c.args.events.now in
    let i = c.events.place in
    let event : Event = c.index-events-place.result in
    let went = c.in_ok-answer.ensures.next (world_of (first_events i (standing o events))) c.events.invariant.0 in (
      subst (StandsFor c.step.new.self) (sym (world-more o events i event c.events-test.true c.index-events-place.is)) went.stands,
      change-more o events i event c.in_ok-answer.answer c.events.found c.later-found.result c.events-test.true c.index-events-place.is
          went.answered c.events.invariant.1 c.later-found.ensures,
    )

pub returns : goal.returns
returns g c =
    let all : c.events.place ≡ length c.args.events.now = omega arith in
    subst (λ n. c.events.found ≡ undo.last_change (standing (opening_of c.args.opening) c.args.events.now) n) all c.events.invariant.1
