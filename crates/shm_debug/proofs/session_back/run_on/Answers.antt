use Rattle.std.proofs.Common.{◌+◌, arith, take}
use Rattle.shm_model.specs.World as model
use Rattle.shm_world.specs.World.{StandsFor}
use Rattle.shm_debug.specs.Standing.{first_events, standing, world_of}
use Rattle.shm_debug.proofs.Going.{one-more}
use Rattle.shm_debug.proofs.session_back.run_on.Goals as goal

pub events-preserved : goal.events-preserved
events-preserved g c =
    let events = c.args.events.now in
    let next : (o : model.Opening) → StandsFor {A = g.row.A.Denot} c.args.world.now (world_of (first_events c.args.from (standing o events))) → StandsFor {A = g.row.A.Denot} c.step_on.new.world (model.run o (take (c.events.index + 1) events)).world =
    λ o at. one-more c.step_on.new.world o events c.events.index c.index-events-index.result c.events-test.true c.index-events-index.is (c.in_ok-step_on.ensures.led o (take c.events.index events) (c.events.invariant.stands o at)) in
    record {
      stands = next;
      kept = λ o at all. c.keep.ensures (standing o events) (omega (arith, c.events-test.true)) (next o at) (c.step_on.ensures.kept (standing o events) (c.events.invariant.kept o at all));
    }

pub returns-in_err-step_on-clause-kept : goal.returns-in_err-step_on-clause-kept
returns-in_err-step_on-clause-kept g c = λ o at all. c.step_on.ensures.kept (standing o c.args.events.now) (c.events.invariant.kept o at all)
