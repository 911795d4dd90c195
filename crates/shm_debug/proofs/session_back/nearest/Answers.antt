use Rattle.shm_model.specs.Opening.{opening_of}
use Rattle.shm_debug.specs.Checkpoints.{Holds}
use Rattle.shm_debug.specs.Standing.{first_events, standing, world_of}
use Rattle.shm_debug.proofs.session_back.nearest.Goals as goal

pub returns-in_ok-world-in-Some : goal.returns-in_ok-world-in-Some
returns-in_ok-world-in-Some g c = λ events all.
    let s = standing (opening_of c.args.opening) events in
    let latest : Holds {A = g.row.A.Denot} s c.in-Some.checkpoint.now = c.in-Some.ensures s all in
    record { within = latest.within; stands = c.in_ok-world-in-Some.ensures (world_of (first_events c.in-Some.checkpoint.now.count s)) latest.stands }
